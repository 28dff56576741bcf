-- What a register's record tells. Assumes nothing.
use Rattle.std.specs.Prelude.{ℕ, ◌+◌, ◌<◌, ◌≡◌, false, List, ◌++◌, length, get_or}
use native.Mathlib.Omega.{arith}
use Rattle.std.proofs.Common.{sym, ◌∙◌}
use Rattle.spec_tests.specs.Rules.{◌≡?◌, ◌or◌, pick}
use Rattle.spec_tests.specs.Laws.{eq_yes, eq_no}
use Rattle.spec_rules.specs.Image.{absent}
use Rattle.spec_rules.specs.NetlistImage.{record_length}
use Rattle.spec_netlist.specs.Accept.{nets, taken, not_own_of, wrong_register}
use Rattle.law_told.specs.Told.{pick_yes, pick_no, RightHere}
use Rattle.law_told.specs.Owned.{Own, own, word_in, register_word}
use Rattle.law_told.specs.Ports.{fresh_of}
use Rattle.law_sorts.specs.Cells.{some_net, some_optional}

pub record RegisterTold (ws : List ℕ) (earlier : List (List ℕ)) (r : List ℕ) : Type 0 where
  pub long : length r ≡ 13
  pub output : Own ws (get_or r 3 0) 7 (get_or r 1 0) (get_or r 2 0)
  pub fresh : taken earlier (get_or r 3 0) ≡ false
  pub next : get_or r 4 0 < nets ws
  pub clock : get_or r 5 0 < nets ws
  pub enable : (get_or r 7 0 ≡ absent → ⊥) → get_or r 7 0 < nets ws
  pub reset : (get_or r 9 0 ≡ absent → ⊥) → get_or r 9 0 < nets ws

register_length : (l : List ℕ) → get_or l 0 0 ≡ 1 → record_length l ≡ 13
unfolding record_length
register_length l e = pick_no (get_or l 0 0 ≡? 0) _ _ (eq_no _ 0 (λ z. omega arith)) ∙ pick_yes (get_or l 0 0 ≡? 1) _ _ (eq_yes _ _ e)

module _ (ws : List ℕ) (earlier : List (List ℕ)) (r : List ℕ) (h : RightHere ws earlier r) (some : 0 < length r) (t : get_or r 0 0 ≡ 1) where
  abbrev L : List ℕ
  L = r ++ h.rest

  first : get_or L 0 0 ≡ 1
  first = word_in ws earlier r h 0 some ∙ t

  long : length r ≡ 13
  long = let e = register_length L first in let a = h.fit in let b = h.long in omega arith

  right : (i : ℕ) → (i ≡ 0 → ⊥) → i < 13 → wrong_register ws earlier L i ≡ false
  right i n l = sym (register_word ws earlier L i n first) ∙ h.right i (let e = long in omega arith)

  in_r : (i : ℕ) → i < 13 → get_or L i 0 ≡ get_or r i 0
  in_r i l = word_in ws earlier r h i (let e = long in omega arith)

  not_own : not_own_of ws earlier (get_or r 3 0) 7 (get_or r 1 0) (get_or r 2 0) ≡ false
  unfolding wrong_register ◌≡?◌ ◌or◌ pick
  not_own = rw (in_r 3 (omega arith), in_r 1 (omega arith), in_r 2 (omega arith)) at (right 3 (λ z. omega arith) (omega arith))

  next_of : get_or r 4 0 < nets ws
  unfolding wrong_register ◌≡?◌ ◌or◌ pick
  next_of = let e = in_r 4 (omega arith) in let a = some_net ws (get_or L 4 0) (right 4 (λ z. omega arith) (omega arith)) in omega arith

  clock_of : get_or r 5 0 < nets ws
  unfolding wrong_register ◌≡?◌ ◌or◌ pick
  clock_of = let e = in_r 5 (omega arith) in let a = some_net ws (get_or L 5 0) (right 5 (λ z. omega arith) (omega arith)) in omega arith

  enable_of : (get_or r 7 0 ≡ absent → ⊥) → get_or r 7 0 < nets ws
  unfolding wrong_register ◌≡?◌ ◌or◌ pick
  enable_of n = let e = in_r 7 (omega arith) in let a = some_optional ws (get_or L 7 0) (right 7 (λ z. omega arith) (omega arith)) (λ z. n (sym e ∙ z)) in omega arith

  reset_of_law : (get_or r 9 0 ≡ absent → ⊥) → get_or r 9 0 < nets ws
  unfolding wrong_register ◌≡?◌ ◌or◌ pick
  reset_of_law n = let e = in_r 9 (omega arith) in let a = some_optional ws (get_or L 9 0) (right 9 (λ z. omega arith) (omega arith)) (λ z. n (sym e ∙ z)) in omega arith

  pub register_told : RegisterTold ws earlier r
  register_told = record {
    long = long;
    output = own ws earlier (get_or r 3 0) 7 (get_or r 1 0) (get_or r 2 0) not_own;
    fresh = fresh_of ws earlier (get_or r 3 0) 7 (get_or r 1 0) (get_or r 2 0) not_own;
    next = next_of;
    clock = clock_of;
    enable = enable_of;
    reset = reset_of_law;
  }
