-- What a model that keeps the rules has: no place breaks one.
use Rattle.std.proofs.Common.{◌≡◌, true, false, not, is_some, Some, None, Option, refl}
use Rattle.tables.specs.Layout.{Content}
use Rattle.tables.specs.Least.{verdict_of}
use Rattle.tables.specs.Places.{rule_number}
use Rattle.tables.proofs.Least.{unbroken}
use Rattle.model.specs.Rules.{judged_with, keeps_rules, NoPlaceBreaks}
use Rattle.model.proofs.Decides.{rules_complete, rules_rising}

pub no_verdict : {A : Type 0} (v : Option A) → not (is_some v) ≡ true → v ≡ None
no_verdict None e = refl
no_verdict (Some x) e = cc

pub kept : (m : Content) → keeps_rules m ≡ true → NoPlaceBreaks m
unfolding keeps_rules
kept m keeps = unbroken rule_number (judged_with false false m) rules_complete rules_rising (no_verdict (verdict_of (judged_with false false m)) keeps)
