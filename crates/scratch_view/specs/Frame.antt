-- What others write into the scratch leaves the tables as they are: the index of gates and cells, and the six other words of each
-- expression. Assumes nothing.
use Rattle.std.specs.Prelude.{◌≡◌, List, ℕ, ◌+◌, ◌*◌, ◌-◌, ◌≤◌, ◌<◌, length, get_or, set, take, drop}
use Rattle.std.proofs.Common.{sym, ap, ◌∙◌, subst, arith, length-set, get_or-set_other, get_or-take, get_or-drop}
use Rattle.spec_rules.specs.Image.{count_at_of}
use Rattle.spec_rules.specs.Checks.{signal_bits, expr_bits}
use Rattle.spec_model.specs.Words.{Netlist}
use Rattle.spec_model.specs.Lowering.{state}
use Rattle.scratch_view.specs.View.{limit_of, signal_column, bit_column, signal_bit, expr_bit, expr_at, state_at, state_of, free_at, free, LaidAt, Laid}
use Rattle.scratch_view.specs.Laws.{ExprSame, signals_few, signal_inside, expr_ends, still_whole, signals_stay, marks_stay, free_stays, wholes_stay, rangeses_stay}

pub record Stays (s w w' : List ℕ) : Type 0 where
  pub says : (l : Netlist) → state_of s l w' ≡ state_of s l w
  pub laid : Laid s w'
  pub limit : limit_of w' ≡ limit_of w
  pub free : free s w' ≡ free s w

-- the words of the tables agree
pub record Same (s : List ℕ) (n : ℕ) (w w' : List ℕ) : Type 0 where
  pub long : length w' ≡ length w
  pub fixed : (j : ℕ) → j < 4 → get_or w' j 0 ≡ get_or w j 0
  pub signals : (j : ℕ) → j < 4 * signal_bits s → get_or w' (signal_column n + j) 0 ≡ get_or w (signal_column n + j) 0
  pub exprs : (e k : ℕ) → e < count_at_of s 1 → k < 2 → get_or w' (expr_at s n e k) 0 ≡ get_or w (expr_at s n e k) 0
  pub bits : (j : ℕ) → j < expr_bits s → get_or w' (bit_column s n + j) 0 ≡ get_or w (bit_column s n + j) 0

module _ (s : List ℕ) (n : ℕ) (w w' : List ℕ) (h : LaidAt s n w) (q : Same s n w w') where
  column : (c : ℕ) (j : ℕ) → c + j < 4 * signal_bits s → get_or w' (signal_column n + c + j) 0 ≡ get_or w (signal_column n + c + j) 0
  column c j u =
      let m : signal_column n + c + j ≡ signal_column n + (c + j) = omega arith in
      ap (λ (i : ℕ). get_or w' i 0) m ∙ q.signals (c + j) u ∙ ap (λ (i : ℕ). get_or w i 0) (sym m)

  expr_same : (e : ℕ) → e < count_at_of s 1 → ExprSame s n w w' e
  expr_same e u = (q.exprs e 1 u (omega arith), λ b v. q.bits (expr_bit s e b) (omega (arith, expr_ends s e u)))

  same_laid : LaidAt s n w'
  same_laid = record {
    image = h.image;
    limited = h.limited;
    long = q.long ∙ h.long;
    limit = q.fixed 0 (omega arith) ∙ h.limit;
    bits = q.fixed 1 (omega arith) ∙ h.bits;
    exprs = q.fixed 2 (omega arith) ∙ h.exprs;
    nets = q.fixed 3 (omega arith) ∙ h.nets;
    firsts = λ p u. column (3 * signal_bits s) p (omega (arith, signals_few s h.image)) ∙ h.firsts p u;
    starts = λ e u. q.exprs e 0 u (omega arith) ∙ h.starts e u;
    drivers = λ p b u v. column (signal_bits s) (signal_bit s p b) (omega (arith, signal_inside s p b u v)) ∙ h.drivers p b u v;
    signal_nets = λ j u. omega (arith, q.signals j (omega arith), h.signal_nets j u);
    expr_nets = λ j u. omega (arith, q.bits j u, h.expr_nets j u);
    wholes = λ e b u v x. still_whole s n w w' e b h (expr_same e u) u v x;
  }

  same_state : (l : Netlist) → state_at s n l w' ≡ state_at s n l w
  same_state l = λ j. state l
      (signals_stay s n w w' (λ i u. q.signals i (omega arith)) j)
      (marks_stay s n w w' (λ i u. column (2 * signal_bits s) i (omega arith)) j)
      (wholes_stay s n w w' expr_same j)
      (rangeses_stay s n w w' expr_same j)

  same_free : free_at s n w' ≡ free_at s n w
  same_free = free_stays s n w w' (λ i u. column (2 * signal_bits s) i (omega arith))

pub stays : (s w w' : List ℕ) → Laid s w → Same s (limit_of w) w w' → Stays s w w'
stays s w w' h q =
    let n = limit_of w in
    let e : limit_of w' ≡ n = q.fixed 0 (omega arith) in
    record {
      says = λ l. ap (λ (m : ℕ). state_at s m l w') e ∙ same_state s n w w' h q l;
      laid = subst (λ (m : ℕ). LaidAt s m w') (sym e) (same_laid s n w w' h q);
      limit = e;
      free = ap (λ (m : ℕ). free_at s m w') e ∙ same_free s n w w' h q;
    }

-- the index: the words between the fixed ones and the tables
pub index_stays : (s w w' : List ℕ) → Laid s w → length w' ≡ length w → take 64 w' ≡ take 64 w → drop (64 + 4 * limit_of w) w' ≡ drop (64 + 4 * limit_of w) w → Stays s w w'
index_stays s w w' h l t d =
    let n = limit_of w in
    let low : (j : ℕ) → j < 64 → get_or w' j 0 ≡ get_or w j 0 = λ j u. sym (get_or-take 64 w' j 0 u) ∙ ap (λ (x : List ℕ). get_or x j 0) t ∙ get_or-take 64 w j 0 u in
    let high : (j : ℕ) → get_or w' (signal_column n + j) 0 ≡ get_or w (signal_column n + j) 0 =
    λ j. sym (get_or-drop (signal_column n) w' j 0) ∙ ap (λ (x : List ℕ). get_or x j 0) d ∙ get_or-drop (signal_column n) w j 0 in
    let up : (j : ℕ) → signal_column n ≤ j → get_or w' j 0 ≡ get_or w j 0 =
    λ j u. (let m : j ≡ signal_column n + (j - signal_column n) = omega arith in
    ap (λ (i : ℕ). get_or w' i 0) m ∙ high (j - signal_column n) ∙ ap (λ (i : ℕ). get_or w i 0) (sym m)) in
    stays s w w' h
    (record {
      long = l;
      fixed = λ j u. low j (omega arith);
      signals = λ j u. high j;
      exprs = λ e k u v. up _ (omega arith);
      bits = λ j u. up _ (omega arith);
    })

-- one of the six other words of an expression
pub plan_stays : (s w : List ℕ) (e k x : ℕ) → Laid s w → e < count_at_of s 1 → 1 < k → k < 8 → Stays s w (set w (expr_at s (limit_of w) e k) x)
plan_stays s w e k x h u v y =
    let n = limit_of w in
    let at = expr_at s n e k in
    let o : (j : ℕ) → (j ≡ at → ⊥) → get_or (set w at x) j 0 ≡ get_or w j 0 = λ j z. get_or-set_other w at j x 0 z in
    stays s w (set w at x) h
    (record {
      long = length-set w at x;
      fixed = λ j a. o j (λ z. absurd (omega arith));
      signals = λ j a. o _ (λ z. absurd (omega arith));
      exprs = λ e' k' a b. o _ (λ z. absurd (omega arith));
      bits = λ j a. o _ (λ z. absurd (omega arith));
    })
