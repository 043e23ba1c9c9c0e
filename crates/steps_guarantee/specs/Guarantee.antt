-- What is guaranteed of every run.
use Rattle.std.specs.Prelude.{◌≡◌, ℕ, true, Some, is_some}
use Rattle.tables.specs.Layout.{Content}
use Rattle.rules.specs.Words.{passes}
use Rattle.outside.specs.declared.outside.Outside.{Ghosts}
use Rattle.steps.specs.declared.records.CallRecord.{CallRecord}
use Rattle.steps.specs.declared.records.ObjectRecord.{ObjectRecord}
use Rattle.steps.specs.Configurations.{Configuration, call_at, group_of, object_at}
use Rattle.steps.specs.Histories.{History, IsPartOf, Linked, now}
use Rattle.steps.specs.Observing.{observation}
use Rattle.steps.specs.Sound.{Beside, CallFits, ObjectFits, ValuesTyped}
use Rattle.steps.specs.States.{is_active, is_outside}
use Rattle.steps_ordered.specs.Lasting.{KeepsIdentities, KeepsValues}
use Rattle.steps_laws.specs.Halted.{EveryChoiceRefused, Halted}
use Rattle.steps_laws.specs.Laws.{Balanced, account_over}
use Rattle.steps_guarantee.specs.Numbers.{numbers_of}

-- Every field, argument, local and resolved future holds a value of the type that it is declared with; every object is of a class that the
-- model has; and every object that is called has the method that is called.
pub record TypesHold (m : Content) (c : Configuration) : Type 0 where
  pub values : ValuesTyped m c
  pub objects : (n : ℕ) (o : ObjectRecord) → object_at c n ≡ Some o → ObjectFits m o
  pub calls : (n : ℕ) (x : CallRecord) → call_at c n ≡ Some x → CallFits m c x

-- Each active process is in a group, and two active processes of one group are one.
pub record OneIsActive (c : Configuration) : Type 0 where
  pub in_group : (n : ℕ) (x : CallRecord) → call_at c n ≡ Some x → is_active x.state ≡ true → is_some (group_of c x.object) ≡ true
  pub one : (n k : ℕ) (x y : CallRecord) → call_at c n ≡ Some x → call_at c k ≡ Some y → is_active x.state ≡ true → is_active y.state ≡ true →
      Beside c x y → n ≡ k

module _ {O : Type 0} (g : Ghosts O) (m : Content) where
  -- What is guaranteed of a run at each of its moments: `h` is its history up to any moment, and `p` up to that moment or any earlier one.
  pub record Guarantee (run : History O) : Type 0 where
    -- Every value has its declared type, and every called object has the called method.
    pub types : (h : History O) → IsPartOf h run → TypesHold m (now h).configuration
    -- Each group has one active process at most.
    pub one_active : (h : History O) → IsPartOf h run → OneIsActive (now h).configuration
    -- A future that was resolved keeps its value.
    pub futures : (h p : History O) → IsPartOf h run → IsPartOf p h → KeepsValues (now p).configuration (now h).configuration
    -- A number that is in use stays that of the same call, or of the same object.
    pub identities : (h p : History O) → IsPartOf h run → IsPartOf p h → KeepsIdentities (now p).configuration (now h).configuration
    -- The numbers that are counted in the history balance, and closing gives an account of them.
    pub balance : (h : History O) → IsPartOf h run → Balanced (numbers_of g m h)
    pub closing : (h : History O) → IsPartOf h run → account_over (now h).configuration (g.waits (now h).outside) ≡ numbers_of g m h
    -- The calls that wait outside are the calls of the run that are out, number by number.
    pub waiting : (h : History O) → IsPartOf h run → (n : ℕ) →
        is_some (g.waits (now h).outside n) ≡ passes (call_at (now h).configuration n) (λ x. is_outside x.state)
    -- Where every choice is refused, the run is halted: nothing waits outside, and each unfinished process has its reason.
    pub rest : (h : History O) → IsPartOf h run → EveryChoiceRefused m (now h).configuration (observation g (now h).outside) →
        Halted m (now h).configuration (observation g (now h).outside) (g.waits (now h).outside)

  -- Whatever was done with it, a run that was opened over an outside in which nothing waited is as guaranteed.
  abbrev pub AlwaysGuaranteed : Type 0
  AlwaysGuaranteed = (run : History O) → Linked g m run → Guarantee run
