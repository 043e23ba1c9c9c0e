-- What is listed of a schedule over a house: how each choice is answered, and the account at the end.
use Rattle.std.specs.Prelude.{◌≡◌, ℕ, List, [], ◌∷◌, take, drop, map, Ok, Err}
use Rattle.tables.specs.Layout.{Content, counts, cut}
use Rattle.steps.specs.Account.{Account}
use Rattle.steps.specs.Houses.{HouseRun, house_account, first_house_run, house_step, run_after}
use Rattle.steps.specs.Outcomes.{Outcome}
use Rattle.steps.specs.Refusals.{refusal_number}

-- The model that two-byte numbers spell: the eleven counts, and the rows of the eleven tables, one after another.
abbrev pub content_of_numbers : List ℕ → Content
content_of_numbers ns = cut (counts (take 11 ns)) (drop 11 ns)

-- The line of a choice: it is accepted, or refused under a number.
pub data Line : Type 0 where
  ok : (choice : ℕ) → Line
  refused : (choice number : ℕ) → Line

abbrev pub choice_of : Line → ℕ
choice_of (ok choice) = choice
choice_of (refused choice number) = choice

abbrev pub line : (choice : ℕ) → Outcome → Line
line choice (Ok d) = ok choice
line choice (Err e) = refused choice (refusal_number e)

-- the lines of choices, and the account at the end
pub record Listing : Type 0 where
  pub lines : List Line
  pub account : Account

abbrev pub with_line : Line → Listing → Listing
with_line x l = record l { lines = x ∷ l.lines }

-- what is listed of choices that a run over a house goes on with
abbrev pub listing_from : Content → List ℕ → HouseRun → Listing
listing_from m [] r = record { lines = []; account = house_account r }
listing_from m (n ∷ ns) r = with_line (line n (house_step m r n)) (listing_from m ns (run_after r (house_step m r n)))

-- A trial: over a house in which nothing waits, a model's choices are answered as the lines say, and come to the account.
abbrev pub Trial : (model : List ℕ) → List Line → Account → Type 0
Trial ns lines account = let m : Content = content_of_numbers ns in listing_from m (map choice_of lines) (first_house_run m) ≡ record { lines = lines; account = account }
