-- Lemmas for the laws of an outside whose next reply is to the first call of a list. They stand in `specs`, since the laws of an `impl` cite no others.
use Rattle.std.proofs.Common.{◌≡◌, ℕ, true, List, [], ◌∷◌, ℤ, Some, None, refl, ap, sym, subst, ◌∙◌, arith, tests}
use Rattle.outside.specs.declared.value.Reply.{Reply}
use Rattle.outside.specs.declared.value.Sort.{Sort}
use Rattle.outside.specs.declared.value.Sort.TheVariants as sort
use Rattle.outside.specs.declared.waiting.WaitingCall.{WaitingCall}
use Rattle.outside.specs.Calls.{waits_in, room_in, first_reply}
use Rattle.outside.specs.Houses.{level_as}
use Rattle.outside.specs.Scripts.{number_as}
use Rattle.outside.specs.Values.{sort_of}

-- a level as a value of a sort has that sort
pub level_as_sort : (level : ℤ) (s : Sort) → sort_of (level_as level s) ≡ s
level_as_sort level sort.Unit = refl
level_as_sort level sort.Bool = refl
level_as_sort level sort.Int = refl

-- and so has a number
pub number_as_sort : (z : ℤ) (s : Sort) → sort_of (number_as z s) ≡ s
number_as_sort z sort.Unit = refl
number_as_sort z sort.Bool = refl
number_as_sort z sort.Int = refl

module _ {K : Type 0} where
  -- the first call waits
  first_waits : (c : WaitingCall K) (cs : List (WaitingCall K)) → waits_in (c ∷ cs) c.call ≡ Some c.sort
  first_waits c cs = grind (arith, tests)

  -- where no call waits, the list is empty
  empty_list : (cs : List (WaitingCall K)) → ((n : ℕ) → waits_in cs n ≡ None) → cs ≡ []
  empty_list [] none = refl
  empty_list (c ∷ cs) none = let first = first_waits c cs in let gone = none c.call in absurd cc

  -- so there is room, if there is any at all
  pub room_in_empty : (limit : ℕ) → room_in {K = K} limit [] ≡ true → (cs : List (WaitingCall K)) → ((n : ℕ) → waits_in cs n ≡ None) → room_in limit cs ≡ true
  room_in_empty limit some cs none = ap (room_in limit) (empty_list cs none) ∙ some

  module _ (reply : WaitingCall K → Reply) where
    -- and no reply comes next
    pub none_in_empty : (cs : List (WaitingCall K)) → ((n : ℕ) → waits_in cs n ≡ None) → first_reply reply cs ≡ None
    none_in_empty cs none = ap (first_reply reply) (empty_list cs none)

    -- where no reply comes next, no call waits
    pub empty_without_first : (cs : List (WaitingCall K)) → first_reply reply cs ≡ None → (n : ℕ) → waits_in cs n ≡ None
    empty_without_first [] none n = refl
    empty_without_first (c ∷ cs) none n = absurd cc

    -- the reply that comes next is to a call that waits, with a value of its sort
    pub first_reply_waits : ((c : WaitingCall K) → (reply c).call ≡ c.call) → ((c : WaitingCall K) → sort_of (reply c).value ≡ c.sort)
        → (cs : List (WaitingCall K)) (r : Reply) → first_reply reply cs ≡ Some r → waits_in cs r.call ≡ Some (sort_of r.value)
    first_reply_waits number sort [] r next = absurd cc
    first_reply_waits number sort (c ∷ cs) r next =
        let same : reply c ≡ r = cc in
        let P : Reply → Type 0 = λ x. waits_in (c ∷ cs) x.call ≡ Some (sort_of x.value) in
        subst P same (ap (waits_in (c ∷ cs)) (number c) ∙ first_waits c cs ∙ ap Some (sym (sort c)))
