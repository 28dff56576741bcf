-- Words put at the front of a list, and more behind them. Assumes nothing.
use Rattle.std.specs.Prelude.{◌≡◌, refl, List, ◌++◌, ℕ, ◌+◌, ◌≤◌, length, take, drop}
use Rattle.std.proofs.Common.{sym, ap, ◌∙◌, subst, arith, length-append, length-take, take_all}
use Rattle.std.proofs.Math.Seq.{paste, take-append-add, take-append_seam}
use Rattle.std.proofs.lemmas.List.{take-append-le}
use Rattle.std.proofs.lemmas.List.Edits.{sets, sets-eq, take-paste}

-- the r words that out begins with are ws
pub record Puts (ws : List ℕ) (r : ℕ) (out : List ℕ) : Type 0 where
  pub end : r ≡ length ws
  pub says : take r out ≡ ws

pub puts_paste : (xs was : List ℕ) (k r : ℕ) (out : List ℕ) → k ≤ length was → length xs ≡ k → r ≡ k → out ≡ paste was 0 xs k → Puts xs r out
puts_paste xs was k r out h l e q =
    let z : k ≡ 0 + k = omega arith in
    record {
      end = omega arith;
      says = ap (λ (j : ℕ). take j out) (e ∙ z) ∙ ap (take (0 + k)) q ∙ take-paste was 0 xs k (omega arith) (omega arith) ∙ take_all k xs (omega arith);
    }

-- copied, the whole list or its front
pub puts_whole : {ws out : List ℕ} {r : ℕ} → out ≡ ws → r ≡ length ws → Puts ws r out
puts_whole {ws} {out} {r} q e = record { end = e; says = ap (take r) q ∙ take_all r ws (omega arith) }

pub puts_front : {ws xs : List ℕ} {r : ℕ} (rest : List ℕ) → xs ≡ ws → r ≡ length ws → Puts ws r (xs ++ rest)
puts_front {ws} {xs} {r} rest q e = record {
  end = e;
  says = ap (λ (ys : List ℕ). take r (ys ++ rest)) q ∙ ap (λ (k : ℕ). take k (ws ++ rest)) e ∙ take-append_seam ws rest;
}

-- what was put at the front of the rest of the list
pub puts_then : {ws vs out part : List ℕ} {a n : ℕ} (rest : List ℕ) → Puts ws a out → Puts vs n part → Puts (ws ++ vs) (a + n) (take a out ++ (part ++ rest))
puts_then {ws} {vs} {out} {part} {a} {n} rest p q =
    let k : n ≤ length part = omega (arith, q.end, ap length q.says, length-take n part) in
    record {
      end = omega (arith, p.end, q.end, length-append ws vs);
      says = rw p.says (ap (λ (j : ℕ). take (j + n) (ws ++ (part ++ rest))) p.end ∙ take-append-add ws (part ++ rest) n ∙ ap (λ (xs : List ℕ). ws ++ xs) (take-append-le n part rest k ∙ q.says));
    }

pub puts_as : {ws vs out : List ℕ} {r : ℕ} → ws ≡ vs → Puts ws r out → Puts vs r out
puts_as {out} {r} e a = subst (λ (xs : List ℕ). Puts xs r out) e a

pub puts_sets : (vs out : List ℕ) (r : ℕ) (out' : List ℕ) → length vs ≤ length out → r ≡ length vs → out' ≡ sets out 0 vs → Puts vs r out'
puts_sets vs out r out' h e q = subst (λ (xs : List ℕ). Puts vs r xs) (sym (q ∙ sets-eq vs out 0 (omega arith))) (puts_front (drop (0 + length vs) out) refl e)

pub puts_all : {ws out : List ℕ} {r : ℕ} → Puts ws r out → take r out ≡ ws
puts_all a = a.says

pub puts_long : {ws out : List ℕ} {r : ℕ} → Puts ws r out → r ≡ length (take r out)
puts_long a = a.end ∙ sym (ap length a.says)
