-- What the code says of a name and of a character, in the terms of the definitions. Assumes nothing.
use Rattle.std.specs.Prelude.{◌≡◌, ◌<◌, ℕ, Bool, true, List, length, Result, Ok, Err}
use Rattle.message.specs.Reading.{Reading, reason_number, has, one, ends}
use Rattle.message.specs.Reading.Reading.{whole, refused}
use Rattle.message.specs.Names.{Named}
use Rattle.message.specs.Characters as characters
use Rattle.message.specs.declared.Refusal.{Refusal}
use Rattle.scan.specs.declared.Name.{Name}
use Rattle.scan.specs.declared.Character.{Character}

abbrev pub name_said : Result Name Refusal → Reading Named
name_said (Ok n) = whole (record { local = n.local; end = n.end })
name_said (Err r) = refused (reason_number r.reason) r.place

abbrev pub character_said : Result Character Refusal → Reading characters.Character
character_said (Ok c) = whole (record { end = c.end; code = c.code })
character_said (Err r) = refused (reason_number r.reason) r.place

-- what a call of a test at a byte may answer is what f says of it
abbrev pub Computes : (ℕ → Bool → Type 0) → (ℕ → Bool) → Type 0
Computes Answers f = (x : ℕ) (r : Bool) → Answers x r → r ≡ f x

-- of a test whose calls may answer so: what is told of the byte at a place, of reading it, and of the run from it on, for each f that it computes
abbrev pub HasIs : (ℕ → Bool → Type 0) → List ℕ → ℕ → Bool → Type 0
HasIs Answers s at r = (r ≡ true → at < length s) × ((f : ℕ → Bool) → Computes Answers f → r ≡ has f s at)

abbrev pub OneIs : (ℕ → Bool → Type 0) → List ℕ → ℕ → Reading ℕ → Type 0
OneIs Answers s at reading = (f : ℕ → Bool) → Computes Answers f → reading ≡ one f s at

abbrev pub EndsIs : (ℕ → Bool → Type 0) → List ℕ → ℕ → ℕ → Type 0
EndsIs Answers s at end = (f : ℕ → Bool) → Computes Answers f → end ≡ ends f s at
