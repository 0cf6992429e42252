-- THEOREMS: the contract of each public function of this crate has one answer. Assumes nothing.
use Rattle.std.specs.Prelude.{Option}
use Rattle.std.proofs.Common.{◌≡◌, ℕ, Bool, ◌||◌, ◌==◌, List}
use Rattle.laws.proofs.OneAnswer.{one_answer}
use Rattle.message.specs.declared.Advice.{Advice}
use Rattle.message.specs.declared.Value.{Value}
use Rattle.message.specs.declared.Status.{Status}
use Rattle.conduct.specs.Lists.{among, distinct}
use Rattle.conduct.specs.Numbers.{next_free, takes_number}
use Rattle.conduct.specs.Pushes.{terms_of, is_response, fate_of}
use Rattle.conduct.specs.Session.{is_stopped, is_up, fits, is_push, allowed_interval, allowed_resends, awaited_numbers}
use Rattle.conduct.specs.Sound.{sound_state, sound_push}
use Rattle.conduct.specs.Rules as Rules
use Rattle.conduct.specs.declared.Call.{Call}
use Rattle.conduct.specs.declared.Fate.{Fate}
use Rattle.conduct.specs.declared.Move.{Move}
use Rattle.conduct.specs.declared.Parting.{Parting}
use Rattle.conduct.specs.declared.Push.{Push}
use Rattle.conduct.specs.declared.Pushed.{Pushed}
use Rattle.conduct.specs.declared.Remark.{Remark}
use Rattle.conduct.specs.declared.Conduct.{Conduct}
use Rattle.conduct.specs.declared.Site.{Site}
use Rattle.conduct.specs.declared.State.{State}
use Rattle.conduct.specs.declared.Sweep.{Sweep}
use Rattle.conduct.specs.declared.Terms.{Terms}

-- ---- moves

module _ {r r' : Move} where
  pub goes_once : (to : State) (remark : Remark) → r ≡ Rules.goes to remark → r' ≡ Rules.goes to remark → r ≡ r'
  goes_once to remark = one_answer

  pub touches_once : (state : State) (sweep : Sweep) → r ≡ Rules.touches state sweep → r' ≡ Rules.touches state sweep → r ≡ r'
  touches_once state sweep = one_answer

  pub waits_once : (parting : Parting) → r ≡ Rules.waits parting → r' ≡ Rules.waits parting → r ≡ r'
  waits_once parting = one_answer

  pub tick_once : (interval next : ℕ) (state : State) → r ≡ Rules.tick interval next state → r' ≡ Rules.tick interval next state → r ≡ r'
  tick_once interval next state = one_answer

  pub stop_once : (state : State) → r ≡ Rules.stop state → r' ≡ Rules.stop state → r ≡ r'
  stop_once state = one_answer

  pub answered_once : (next : ℕ) (status : Status) → r ≡ Rules.answered next status → r' ≡ Rules.answered next status → r ≡ r'
  answered_once next status = one_answer

  pub matches_nothing_once : (state : State) → r ≡ Rules.matches_nothing state → r' ≡ Rules.matches_nothing state → r ≡ r'
  matches_nothing_once state = one_answer

-- ---- what a message says

pub named_by_once : (value : Value (Option ℕ)) {r r' : Option ℕ} → r ≡ Rules.named_by value → r' ≡ Rules.named_by value → r ≡ r'
named_by_once value = one_answer

pub status_by_once : (value : Value Status) {r r' : Status} → r ≡ Rules.status_by value → r' ≡ Rules.status_by value → r ≡ r'
status_by_once value = one_answer

pub counted_in_once : (conduct : Conduct) (status : Status) {r r' : Status} → r ≡ Rules.counted_in conduct status → r' ≡ Rules.counted_in conduct status → r ≡ r'
counted_in_once conduct status = one_answer

pub advice_by_once : (value : Value Advice) {r r' : Advice} → r ≡ Rules.advice_by value → r' ≡ Rules.advice_by value → r ≡ r'
advice_by_once value = one_answer

pub is_awaited_once : (awaited : Option ℕ) (number : ℕ) {r r' : Bool}
    → r ≡ among number (awaited_numbers awaited) → r' ≡ among number (awaited_numbers awaited) → r ≡ r'
is_awaited_once awaited number = one_answer

pub advises_once : (advice : Advice) (n : ℕ) {r r' : Sweep} → r ≡ Rules.advises advice n → r' ≡ Rules.advises advice n → r ≡ r'
advises_once advice n = one_answer

-- ---- states

module _ {r r' : Bool} where
  pub is_stopped_once : (state : State) → r ≡ is_stopped state → r' ≡ is_stopped state → r ≡ r'
  is_stopped_once state = one_answer

  pub fits_once : (state : State) (call : Call) → r ≡ fits state call → r' ≡ fits state call → r ≡ r'
  fits_once state call = one_answer

  pub is_push_once : (call : Call) → r ≡ is_push call → r' ≡ is_push call → r ≡ r'
  is_push_once call = one_answer

-- ---- the test behind 27

module _ {r r' : Bool} where
  pub is_allowed_once : (interval : ℕ) → r ≡ allowed_interval interval → r' ≡ allowed_interval interval → r ≡ r'
  is_allowed_once interval = one_answer

  pub is_resends_allowed_once : (resends : ℕ) → r ≡ allowed_resends resends → r' ≡ allowed_resends resends → r ≡ r'
  is_resends_allowed_once resends = one_answer

  pub is_state_sound_once : (interval : ℕ) (state : State) → r ≡ sound_state interval state → r' ≡ sound_state interval state → r ≡ r'
  is_state_sound_once interval state = one_answer

  pub is_count_sound_once : (state : State) (count : ℕ) → r ≡ (is_up state || count == 0) → r' ≡ (is_up state || count == 0) → r ≡ r'
  is_count_sound_once state count = one_answer

-- ---- one open push

pub is_response_once : (what : Pushed) {r r' : Bool} → r ≡ is_response what → r' ≡ is_response what → r ≡ r'
is_response_once what = one_answer

pub terms_of_once : (site : Site) {r r' : Terms} → r ≡ terms_of site → r' ≡ terms_of site → r ≡ r'
terms_of_once site = one_answer

pub fate_of_once : (terms : Terms) (sweep : Sweep) (p : Push) {r r' : Fate} → r ≡ fate_of terms sweep p → r' ≡ fate_of terms sweep p → r ≡ r'
fate_of_once terms sweep p = one_answer

pub is_sound_once : (terms : Terms) (p : Push) {r r' : Bool} → r ≡ sound_push terms p → r' ≡ sound_push terms p → r ≡ r'
is_sound_once terms p = one_answer

-- ---- numbers

module _ (numbers : List ℕ) where
  pub is_among_once : (number : ℕ) {r r' : Bool} → r ≡ among number numbers → r' ≡ among number numbers → r ≡ r'
  is_among_once number = one_answer

  pub all_differ_once : {r r' : Bool} → r ≡ distinct numbers → r' ≡ distinct numbers → r ≡ r'
  all_differ_once = one_answer

  pub next_free_once : (last : ℕ) {r r' : ℕ} → r ≡ next_free numbers last → r' ≡ next_free numbers last → r ≡ r'
  next_free_once last = one_answer

pub takes_number_once : (code : ℕ) {r r' : Bool} → r ≡ takes_number code → r' ≡ takes_number code → r ≡ r'
takes_number_once code = one_answer
