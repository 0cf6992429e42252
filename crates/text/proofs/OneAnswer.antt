-- Promise 7, one answer: the contract of each public function of this crate has one answer. Assumes nothing.
use mathlib.Core.Path.{◌≡◌}
use mathlib.Core.Bool.{Bool}
use mathlib.Core.List.{List}
use Prim.Native.Nat.{ℕ, suc}
use lib.ListN.{length}
use Rattle.std.specs.Prelude.{Result}
use Rattle.laws.proofs.OneAnswer.{one_answer, one_said}
use Rattle.message.specs.Class.{class_in, between, is_plain, is_plain_note}
use Rattle.message.specs.Reading.{said, has, one, ends, closed_at}
use Rattle.message.specs.Characters.{long_at, legal, reference_at}
use Rattle.message.specs.Markup.{declares, declaration_at, bang_at, around_at, opens_at}
use Rattle.message.specs.Text.{special_at, text_at, value_at, comment_at}
use Rattle.message.specs.declared.Refusal.{Refusal}
use Rattle.message.proofs.OneAnswer.{says_one_thing}
use Rattle.scan.specs.Answers.{character_said}
use Rattle.scan.specs.declared.Character.{Character}
use Rattle.scan.proofs.OneAnswer.{character_said_lem}

-- ---- characters

pub between_at_once : (s : List ℕ) (at low high : ℕ) {r r' : Bool}
    → r ≡ has (between low high) s at → r' ≡ has (between low high) s at → r ≡ r'
between_at_once s at low high = one_answer

pub between_once : (s : List ℕ) (at low high : ℕ) {r r' : Result ℕ Refusal}
    → said r ≡ one (between low high) s at → said r' ≡ one (between low high) s at → r ≡ r'
between_once s at low high = one_said said says_one_thing

pub long_once : (s : List ℕ) (at : ℕ) {r r' : Result Character Refusal} → character_said r ≡ long_at s at → character_said r' ≡ long_at s at → r ≡ r'
long_once s at = one_said character_said character_said_lem

-- ---- references

pub legal_once : (code : ℕ) {r r' : Bool} → r ≡ legal code → r' ≡ legal code → r ≡ r'
legal_once code = one_answer

pub reference_once : (s : List ℕ) (at : ℕ) {r r' : Result Character Refusal}
    → character_said r ≡ reference_at s at → character_said r' ≡ reference_at s at → r ≡ r'
reference_once s at = one_said character_said character_said_lem

-- ---- text, values, comments

pub plain_end_once : (s table : List ℕ) (at : ℕ) {r r' : ℕ}
    → r ≡ ends (is_plain (class_in table)) s at → r' ≡ ends (is_plain (class_in table)) s at → r ≡ r'
plain_end_once s table at = one_answer

pub plain_note_end_once : (s table : List ℕ) (at : ℕ) {r r' : ℕ}
    → r ≡ ends (is_plain_note (class_in table)) s at → r' ≡ ends (is_plain_note (class_in table)) s at → r ≡ r'
plain_note_end_once s table at = one_answer

pub special_once : (s : List ℕ) (at : ℕ) {r r' : Result Character Refusal} → character_said r ≡ special_at s at → character_said r' ≡ special_at s at → r ≡ r'
special_once s at = one_said character_said character_said_lem

pub text_once : (s table : List ℕ) (at : ℕ) {r r' : Result ℕ Refusal}
    → said r ≡ text_at (class_in table) (length s) s at → said r' ≡ text_at (class_in table) (length s) s at → r ≡ r'
text_once s table at = one_said said says_one_thing

pub value_once : (s table : List ℕ) (at quote : ℕ) {r r' : Result ℕ Refusal}
    → said r ≡ value_at (class_in table) (length s) quote s at → said r' ≡ value_at (class_in table) (length s) quote s at → r ≡ r'
value_once s table at quote = one_said said says_one_thing

pub comment_once : (s table : List ℕ) (at : ℕ) {r r' : Result ℕ Refusal}
    → said r ≡ comment_at (class_in table) (length s) s at → said r' ≡ comment_at (class_in table) (length s) s at → r ≡ r'
comment_once s table at = one_said said says_one_thing

-- ---- the declaration

pub declares_once : (s table : List ℕ) {r r' : Bool} → r ≡ declares (class_in table) s → r' ≡ declares (class_in table) s → r ≡ r'
declares_once s table = one_answer

pub closed_once : (s : List ℕ) (from to : ℕ) {r r' : Result ℕ Refusal} → said r ≡ closed_at s from to → said r' ≡ closed_at s from to → r ≡ r'
closed_once s from to = one_said said says_one_thing

pub declaration_once : (s table : List ℕ) (at : ℕ) {r r' : Result ℕ Refusal}
    → said r ≡ declaration_at (class_in table) s at → said r' ≡ declaration_at (class_in table) s at → r ≡ r'
declaration_once s table at = one_said said says_one_thing

-- ---- markup

pub opens_at_once : (s : List ℕ) (at b : ℕ) {r r' : Bool} → r ≡ opens_at b s at → r' ≡ opens_at b s at → r ≡ r'
opens_at_once s at b = one_answer

pub bang_once : (s table : List ℕ) (at : ℕ) {r r' : Result ℕ Refusal}
    → said r ≡ bang_at (class_in table) s at → said r' ≡ bang_at (class_in table) s at → r ≡ r'
bang_once s table at = one_said said says_one_thing

pub around_once : (s table : List ℕ) (at : ℕ) {r r' : Result ℕ Refusal}
    → said r ≡ around_at (class_in table) (suc (length s)) s at → said r' ≡ around_at (class_in table) (suc (length s)) s at → r ≡ r'
around_once s table at = one_said said says_one_thing
