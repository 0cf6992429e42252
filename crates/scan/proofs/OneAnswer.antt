-- Promise 7, one answer: the contract of each public function of this crate has one answer. Assumes nothing.
use mathlib.Core.Path.{◌≡◌, ap}
use mathlib.Core.Bool.{Bool}
use mathlib.Core.List.{List}
use Prim.Native.Nat.{ℕ}
use Rattle.std.specs.Prelude.{Result, Ok, Err}
use Rattle.laws.proofs.OneAnswer.{one_answer, one_said}
use Rattle.message.specs.Class.{class_table, class_in, is_start, at_least, is_name, is_space}
use Rattle.message.specs.Reading.{Reading, reason_number, said, is, has, one, ends, blanks, equals_at, opened_at, is_quote, is_whole, word_at}
use Rattle.message.specs.Reading.Reading.{refused}
use Rattle.message.specs.Characters as characters
use Rattle.message.specs.Names.{Named, short_at, part_at, name_at}
use Rattle.message.specs.declared.Reason.{Reason}
use Rattle.message.specs.declared.Refusal.{Refusal}
use Rattle.message.proofs.OneAnswer.{says_one_thing}
use Rattle.scan.specs.Answers.{name_said, character_said}
use Rattle.scan.specs.declared.Name.{Name}
use Rattle.scan.specs.declared.Character.{Character}

-- ---- no two answers say the same

-- of a refusal, whatever was to be read
refusal_once : {A : Type 0} (e e' : Refusal)
    → ◌≡◌ {A = Reading A} (refused (reason_number e.reason) e.place) (refused (reason_number e'.reason) e'.place) → e ≡ e'
refusal_once e e' same =
    let errs : ◌≡◌ {A = Result ℕ Refusal} (Err e) (Err e') = says_one_thing (Err e) (Err e') cc in
    cc

names_same : {l l' e e' : ℕ} → l ≡ l' → e ≡ e' → ◌≡◌ {A = Name} (record { local = l; end = e }) (record { local = l'; end = e' })
names_same same same' = cc

pub name_said_lem : (r r' : Result Name Refusal) → name_said r ≡ name_said r' → r ≡ r'
name_said_lem (Ok x) (Ok x') same =
    let held : ◌≡◌ {A = Named} (record { local = x.local; end = x.end }) (record { local = x'.local; end = x'.end }) = cc in
    ap Ok (names_same (ap (λ n. n.local) held) (ap (λ n. n.end) held))
name_said_lem (Ok x) (Err e) same = cc
name_said_lem (Err e) (Ok x) same = cc
name_said_lem (Err e) (Err e') same = ap Err (refusal_once e e' same)

characters_same : {e e' c c' : ℕ} → e ≡ e' → c ≡ c' → ◌≡◌ {A = Character} (record { end = e; code = c }) (record { end = e'; code = c' })
characters_same same same' = cc

pub character_said_lem : (r r' : Result Character Refusal) → character_said r ≡ character_said r' → r ≡ r'
character_said_lem (Ok x) (Ok x') same =
    let held : ◌≡◌ {A = characters.Character} (record { end = x.end; code = x.code }) (record { end = x'.end; code = x'.code }) = cc in
    ap Ok (characters_same (ap (λ c. c.end) held) (ap (λ c. c.code) held))
character_said_lem (Ok x) (Err e) same = cc
character_said_lem (Err e) (Ok x) same = cc
character_said_lem (Err e) (Err e') same = ap Err (refusal_once e e' same)

-- ---- a refusal, and the table

pub refused_once : {A : Type 0} (reason : Reason) (place : ℕ) {r r' : Result A Refusal}
    → r ≡ Err (record { reason = reason; place = place }) → r' ≡ Err (record { reason = reason; place = place }) → r ≡ r'
refused_once reason place = one_answer

pub table_once : {r r' : List ℕ} → r ≡ class_table → r' ≡ class_table → r ≡ r'
table_once = one_answer

-- ---- bytes

pub class_once : (table : List ℕ) (b : ℕ) {r r' : ℕ} → r ≡ class_in table b → r' ≡ class_in table b → r ≡ r'
class_once table b = one_answer

pub is_at_once : (s : List ℕ) (at b : ℕ) {r r' : Bool} → r ≡ has (is b) s at → r' ≡ has (is b) s at → r ≡ r'
is_at_once s at b = one_answer

pub start_at_once : (s table : List ℕ) (at : ℕ) {r r' : Bool}
    → r ≡ has (is_start (class_in table)) s at → r' ≡ has (is_start (class_in table)) s at → r ≡ r'
start_at_once s table at = one_answer

pub least_at_once : (s table : List ℕ) (at least : ℕ) {r r' : Bool}
    → r ≡ has (at_least (class_in table) least) s at → r' ≡ has (at_least (class_in table) least) s at → r ≡ r'
least_at_once s table at least = one_answer

pub space_at_once : (s table : List ℕ) (at : ℕ) {r r' : Bool}
    → r ≡ has (is_space (class_in table)) s at → r' ≡ has (is_space (class_in table)) s at → r ≡ r'
space_at_once s table at = one_answer

pub byte_once : (s : List ℕ) (at b : ℕ) {r r' : Result ℕ Refusal} → said r ≡ one (is b) s at → said r' ≡ one (is b) s at → r ≡ r'
byte_once s at b = one_said said says_one_thing

pub start_once : (s table : List ℕ) (at : ℕ) {r r' : Result ℕ Refusal}
    → said r ≡ one (is_start (class_in table)) s at → said r' ≡ one (is_start (class_in table)) s at → r ≡ r'
start_once s table at = one_said said says_one_thing

pub space_once : (s table : List ℕ) (at : ℕ) {r r' : Result ℕ Refusal}
    → said r ≡ one (is_space (class_in table)) s at → said r' ≡ one (is_space (class_in table)) s at → r ≡ r'
space_once s table at = one_said said says_one_thing

pub quote_once : (s : List ℕ) (at : ℕ) {r r' : Result ℕ Refusal} → said r ≡ one is_quote s at → said r' ≡ one is_quote s at → r ≡ r'
quote_once s at = one_said said says_one_thing

pub run_end_once : (s table : List ℕ) (at least : ℕ) {r r' : ℕ}
    → r ≡ ends (at_least (class_in table) least) s at → r' ≡ ends (at_least (class_in table) least) s at → r ≡ r'
run_end_once s table at least = one_answer

pub name_end_once : (s table : List ℕ) (at : ℕ) {r r' : ℕ}
    → r ≡ ends (is_name (class_in table)) s at → r' ≡ ends (is_name (class_in table)) s at → r ≡ r'
name_end_once s table at = one_answer

pub blanks_once : (s table : List ℕ) (at : ℕ) {r r' : ℕ} → r ≡ blanks (class_in table) s at → r' ≡ blanks (class_in table) s at → r ≡ r'
blanks_once s table at = one_answer

pub equals_once : (s table : List ℕ) (at : ℕ) {r r' : Result ℕ Refusal}
    → said r ≡ equals_at (class_in table) s at → said r' ≡ equals_at (class_in table) s at → r ≡ r'
equals_once s table at = one_said said says_one_thing

pub opened_once : (s table : List ℕ) (at : ℕ) {r r' : Result ℕ Refusal}
    → said r ≡ opened_at (class_in table) s at → said r' ≡ opened_at (class_in table) s at → r ≡ r'
opened_once s table at = one_said said says_one_thing

-- ---- names

pub short_once : (s table : List ℕ) (at most : ℕ) {r r' : Result ℕ Refusal}
    → said r ≡ short_at (class_in table) most s at → said r' ≡ short_at (class_in table) most s at → r ≡ r'
short_once s table at most = one_said said says_one_thing

pub part_once : (s table : List ℕ) (at most : ℕ) {r r' : Result ℕ Refusal}
    → said r ≡ part_at (class_in table) most s at → said r' ≡ part_at (class_in table) most s at → r ≡ r'
part_once s table at most = one_said said says_one_thing

pub name_once : (s table : List ℕ) (at most : ℕ) {r r' : Result Name Refusal}
    → name_said r ≡ name_at (class_in table) most s at → name_said r' ≡ name_at (class_in table) most s at → r ≡ r'
name_once s table at most = one_said name_said name_said_lem

-- ---- words

pub word_once : (s : List ℕ) (at : ℕ) (w : List ℕ) {r r' : Result ℕ Refusal} → said r ≡ word_at w s at → said r' ≡ word_at w s at → r ≡ r'
word_once s at w = one_said said says_one_thing

pub spells_once : (s : List ℕ) (at : ℕ) (w : List ℕ) {r r' : Bool} → r ≡ is_whole (word_at w s at) → r' ≡ is_whole (word_at w s at) → r ≡ r'
spells_once s at w = one_answer
