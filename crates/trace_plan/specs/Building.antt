-- A plan that is being made: the nets below j have been met, and there are n steps. Word k of a table says after which step net k has its
-- value: 0 for a source; a large number as long as it has none. Assumes nothing.
use Rattle.std.specs.Prelude.{ℕ, ◌+◌, ◌*◌, ◌^◌, ◌/◌, ◌%◌, ◌≤◌, ◌<◌, ◌≡◌, refl, true, ◌⊎◌, List, length, take, drop, get_or, set}
use Rattle.std.proofs.Common.{not-suc-le-zero, arith, sym, ap, ◌∙◌, subst, inl, inr, ⊎_elim, length-set, length-take-le, get_or-take, get_or-set_same, get_or-set_other}
use Rattle.std.proofs.Math.Decide.{dec_lt, ℕ_discrete}
use Rattle.spec_rtl.specs.Word.{bit}
use Rattle.spec_rules.specs.NetlistImage.{netlist}
use Rattle.spec_rules.specs.Step.{Setting, Contents, net}
use Rattle.law_reads.specs.Reads.{node_of, is_source}
use Rattle.trace_cells.specs.Cells.{left_of, outs_of, total_of, ArithmeticFits, Compares, lesser_of, greater_of, answer_of}
use Rattle.trace_pass.specs.declared.Step.{Step}
use Rattle.trace_pass.specs.declared.Step.TheVariants.{Arithmetic}
use Rattle.trace_pass.specs.Coded.{word_in, words_of, words_long, word_at_of}
use Rattle.trace_pass.specs.Plan.{size, word, place, Settled, GateStep, ArithmeticStep, ComparisonStep, Plan}

abbrev pub at : List ℕ → ℕ → ℕ
at due k = get_or due k 0

pub record Building (ws t due : List ℕ) (n j : ℕ) : Type 0 where
  pub few : n ≤ j
  pub up_to : j ≤ size ws
  pub met : (k : ℕ) → k < j → at due k ≤ n
  pub gap : (k : ℕ) → k < size ws → n < at due k → 131072 ≤ at due k
  pub sources : (k : ℕ) → k < size ws → at due k ≤ 0 → is_source (node_of (netlist ws) k) ≡ true
  pub gate : (i : ℕ) → i < n → word t i 1 < 256 → GateStep ws t (at due) i
  pub arithmetic : (i : ℕ) → i < n → word t i 1 ≡ 256 → ArithmeticStep ws t (at due) i
  pub comparison : (i : ℕ) → i < n → 256 < word t i 1 → ComparisonStep ws t (at due) i

pub start : (ws t due : List ℕ) → ((k : ℕ) → k < size ws → 131072 ≤ at due k) → Building ws t due 0 0
start ws t due h = record {
  few = omega arith;
  up_to = omega arith;
  met = λ k l. absurd (not-suc-le-zero l);
  gap = λ k l m. h k l;
  sources = λ k l m. absurd (omega (arith, h k l));
  gate = λ i l. absurd (not-suc-le-zero l);
  arithmetic = λ i l. absurd (not-suc-le-zero l);
  comparison = λ i l. absurd (not-suc-le-zero l);
}

pub end : {ws t due : List ℕ} {n : ℕ} → Building ws t due n (size ws) → 5 * size ws ≤ length t → Plan ws t n
end {due = due} b l = record {
  due = at due;
  long = omega (arith, b.few);
  sources = b.sources;
  ends = b.met;
  gate = b.gate;
  arithmetic = b.arithmetic;
  comparison = b.comparison;
}

-- ---- a net more ----

-- some nets that had no value yet get x; the others keep theirs
pub record Given (due due' : List ℕ) (n x : ℕ) : Type 0 where
  pub fixed : (k : ℕ) → at due k ≤ n → at due' k ≡ at due k
  pub fresh : (k : ℕ) → n < at due k → (at due' k ≡ at due k) ⊎ (at due' k ≡ x)

-- a step more behind n others
pub record Pushed (t t' : List ℕ) (n a b c d e : ℕ) : Type 0 where
  pub first : word t' n 0 ≡ a
  pub second : word t' n 1 ≡ b
  pub third : word t' n 2 ≡ c
  pub fourth : word t' n 3 ≡ d
  pub fifth : word t' n 4 ≡ e
  pub kept : (i f : ℕ) → i < n → f < 5 → word t' i f ≡ word t i f

-- steps that are there stay right
module _ (ws t t' : List ℕ) {due due' : List ℕ} {n x : ℕ} (g : Given due due' n x) (skip : (i : ℕ) → i < n → x ≤ i + 1 → x ≤ i)
    (kept : (i f : ℕ) → i < n → f < 5 → word t' i f ≡ word t i f) {i : ℕ} (l : i < n) where
  settled_back : {s : Setting} {c : Contents} {v : List ℕ} → Settled ws (at due') s c i v → Settled ws (at due) s c i v
  settled_back h = record { holds = λ j m d. h.holds j m (let e = g.fixed j (omega arith) in omega arith) }

  only_later : (j : ℕ) → (at due j ≤ i + 1 → at due j ≤ i) → at due' j ≤ i + 1 → at due' j ≤ i
  only_later j f h = elim (dec_lt n (at due j)) [
    | yes m ↦ ⊎_elim (λ (e : at due' j ≡ at due j). absurd (omega arith)) (λ (e : at due' j ≡ x). (let z = skip i l (omega arith) in omega arith)) (g.fresh j m)
    | no m ↦ (let e = g.fixed j (omega arith) in let z = f (omega arith) in omega arith)
  ]

  same_place : place ws t' i ≡ place ws t i
  same_place = ap (λ (k : ℕ). drop k ws) (kept i 2 l (omega arith))

  pub gate_later : GateStep ws t (at due) i → GateStep ws t' (at due') i
  gate_later s =
      let e0 = kept i 0 l (omega arith) in
      let e1 = kept i 1 l (omega arith) in
      let e2 = kept i 2 l (omega arith) in
      let e3 = kept i 3 l (omega arith) in
      let e4 = kept i 4 l (omega arith) in
      let x = s.inputs in
      record {
        inputs = (rw e2 x.0, (rw e3 x.1.0, rw e4 x.1.1));
        one = record {
          inside = rw e0 s.one.inside;
          only = λ j h d m. only_later j (λ q. s.one.only j h q (λ z. m (z ∙ sym e0))) d;
          rule = λ s' c v b h. rw (e0, e1, e2, e3, e4) (s.one.rule s' c v b (settled_back h));
        };
      }

  pub arithmetic_later : ArithmeticStep ws t (at due) i → ArithmeticStep ws t' (at due') i
  arithmetic_later s = record {
    fits = λ v h. subst (λ (r : List ℕ). ArithmeticFits r v) (sym same_place) (s.fits v h);
    only = λ j h d m. only_later j (λ q. s.only j h q (λ a b z. m a (rw same_place b) (ap (λ (r : List ℕ). get_or (outs_of r) a 0) same_place ∙ z))) d;
    rule = λ s' c v b h m k. subst (λ (r : List ℕ). m < length (left_of r) → total_of r v / 2 ^ m % 2 ≡ bit (net (netlist ws) s' c (get_or (outs_of r) m 0))) (sym same_place) (s.rule s' c v b (settled_back h) m) k;
  }

  pub comparison_later : ComparisonStep ws t (at due) i → ComparisonStep ws t' (at due') i
  comparison_later s =
      let e0 = kept i 0 l (omega arith) in
      record {
        fits = λ v h. subst (λ (r : List ℕ). Compares (lesser_of r) (greater_of r) v) (sym same_place) (s.fits v h);
        one = record {
          inside = rw e0 s.one.inside;
          only = λ j h d m. only_later j (λ q. s.one.only j h q (λ z. m (z ∙ sym e0))) d;
          rule = λ s' c v b h. ap (λ (r : List ℕ). answer_of r v) same_place ∙ s.one.rule s' c v b (settled_back h) ∙ ap (λ (k : ℕ). bit (net (netlist ws) s' c k)) (sym e0);
        };
      }

-- all steps but the last, of n + 1
cases : {P : ℕ → Type 0} (n : ℕ) → ((i : ℕ) → i < n → P i) → P n → (i : ℕ) → i < n + 1 → P i
cases {P} n f p i h = elim (dec_lt i n) [
  | yes l ↦ f i l
  | no l ↦ (let e : i ≡ n = omega arith in subst P (sym e) p)
]

-- ---- a net that has its value by a step that is there ----

pub passed : {ws t due : List ℕ} {n j : ℕ} → Building ws t due n j → j < size ws → at due j ≤ n → Building ws t due n (j + 1)
passed {due = due} {n = n} {j = j} b h d = record {
  few = omega (arith, b.few);
  up_to = omega arith;
  met = λ k l. cases {P = λ i. at due i ≤ n} j b.met d k l;
  gap = b.gap;
  sources = b.sources;
  gate = b.gate;
  arithmetic = b.arithmetic;
  comparison = b.comparison;
}

-- ---- one net gets x ----

pub given_one : (due : List ℕ) (n j x : ℕ) → n < at due j → j < length due → Given due (set due j x) n x
given_one due n j x h l = record {
  fixed = λ k m. get_or-set_other due j k x 0 (λ e. absurd (omega (arith, ap (at due) e)));
  fresh = λ k m. elim (ℕ_discrete k j) [
    | yes e ↦ inr (ap (λ (i : ℕ). get_or (set due j x) i 0) e ∙ get_or-set_same due j x 0 l)
    | no e ↦ inl (get_or-set_other due j k x 0 e)
  ];
}

pub source : {ws t due due' : List ℕ} {n j : ℕ} → Building ws t due n j → j < size ws → n < at due j → j < length due → is_source (node_of (netlist ws) j) ≡ true
    → due' ≡ set due j 0 → Building ws t due' n (j + 1)
source {ws} {t} {due} {due'} {n} {j} b h d l s e = rw e (record {
  few = omega (arith, b.few);
  up_to = omega arith;
  met = λ k m. cases {P = λ i. at (set due j 0) i ≤ n} j (λ i q. (let z = b.met i q in let y = g.fixed i z in omega arith)) (let z = get_or-set_same due j 0 0 l in omega arith) k m;
  gap = λ k m q. elim (ℕ_discrete k j) [
    | yes z ↦ absurd (let y = ap (λ (i : ℕ). get_or (set due j 0) i 0) z ∙ get_or-set_same due j 0 0 l in omega arith)
    | no z ↦ (let y = get_or-set_other due j k 0 0 z in let x = b.gap k m (omega arith) in omega arith)
  ];
  sources = λ k m q. elim (ℕ_discrete k j) [
    | yes z ↦ ap (λ (i : ℕ). is_source (node_of (netlist ws) i)) z ∙ s
    | no z ↦ b.sources k m (let y = get_or-set_other due j k 0 0 z in omega arith)
  ];
  gate = λ i m q. gate_later ws t t g (λ i l q. omega arith) (λ i f l m. refl) m (b.gate i m q);
  arithmetic = λ i m q. arithmetic_later ws t t g (λ i l q. omega arith) (λ i f l m. refl) m (b.arithmetic i m q);
  comparison = λ i m q. comparison_later ws t t g (λ i l q. omega arith) (λ i f l m. refl) m (b.comparison i m q);
})
  where
    g : Given due (set due j 0) n 0
    g = given_one due n j 0 d l

-- ---- a step more ----

-- a net that keeps its word and is due by the new step was due before
pub only_new : {ws t due : List ℕ} (due' : List ℕ) {n j : ℕ} → Building ws t due n j → size ws ≤ 65535 → (k : ℕ) → k < size ws → at due' k ≡ at due k → at due' k ≤ n + 1 → at due' k ≤ n
only_new {due = due} due' {n = n} b few k h e d = elim (dec_lt n (at due k)) [
  | yes l ↦ absurd (omega (arith, b.gap k h l, b.few, b.up_to))
  | no l ↦ omega arith
]

pub pushed : {ws t t' due due' : List ℕ} {n j a q x y z : ℕ} → Building ws t due n j → j < size ws → Given due due' n (n + 1) → at due' j ≤ n + 1 → Pushed t t' n a q x y z
    → (q < 256 → GateStep ws t' (at due') n) → (q ≡ 256 → ArithmeticStep ws t' (at due') n) → (256 < q → ComparisonStep ws t' (at due') n) → Building ws t' due' (n + 1) (j + 1)
pushed {ws} {t} {t'} {due} {due'} {n} {j} {a} {q} {x} {y} {z} b h g d p one two three = record {
  few = omega (arith, b.few);
  up_to = omega arith;
  met = λ k m. cases {P = λ i. at due' i ≤ n + 1} j (λ i l. (let u = b.met i l in let v = g.fixed i u in omega arith)) d k m;
  gap = λ k m u. elim (dec_lt n (at due k)) [
    | yes l ↦ ⊎_elim (λ (e : at due' k ≡ at due k). (let v = b.gap k m l in omega arith)) (λ (e : at due' k ≡ n + 1). absurd (omega arith)) (g.fresh k l)
    | no l ↦ absurd (omega (arith, g.fixed k (omega arith)))
  ];
  sources = λ k m u. elim (dec_lt n (at due k)) [
    | yes l ↦ ⊎_elim (λ (e : at due' k ≡ at due k). absurd (omega arith)) (λ (e : at due' k ≡ n + 1). absurd (omega arith)) (g.fresh k l)
    | no l ↦ b.sources k m (omega (arith, g.fixed k (omega arith)))
  ];
  gate = λ i m. cases {P = λ i. word t' i 1 < 256 → GateStep ws t' (at due') i} n (λ i l u. gate_later ws t t' g skip p.kept l (b.gate i l (omega (arith, p.kept i 1 l (omega arith))))) (λ u. one (omega (arith, p.second))) i m;
  arithmetic = λ i m. cases {P = λ i. word t' i 1 ≡ 256 → ArithmeticStep ws t' (at due') i} n
      (λ i l u. arithmetic_later ws t t' g skip p.kept l (b.arithmetic i l (omega (arith, p.kept i 1 l (omega arith))))) (λ u. two (omega (arith, p.second))) i m;
  comparison = λ i m. cases {P = λ i. 256 < word t' i 1 → ComparisonStep ws t' (at due') i} n
      (λ i l u. comparison_later ws t t' g skip p.kept l (b.comparison i l (omega (arith, p.kept i 1 l (omega arith))))) (λ u. three (omega (arith, p.second))) i m;
}
  where
    skip : (i : ℕ) → i < n → n + 1 ≤ i + 1 → n + 1 ≤ i
    skip i l u = absurd (omega arith)

-- ---- steps of the code ----

-- a step stored behind n others
pub pushed_step : (ss : List Step) (n : ℕ) (s : Step) → n < length ss
    → Pushed (words_of ss) (words_of (set ss n s)) n (word_in s 0) (word_in s 1) (word_in s 2) (word_in s 3) (word_in s 4)
pushed_step ss n s h = record {
  first = here 0 (omega arith);
  second = here 1 (omega arith);
  third = here 2 (omega arith);
  fourth = here 3 (omega arith);
  fifth = here 4 (omega arith);
  kept = λ i f l m. word_at_of (set ss n s) i f s (let e = length-set ss n s in omega arith) m
      ∙ ap (λ (x : Step). word_in x f) (get_or-set_other ss n i s s (λ e. absurd (omega arith))) ∙ sym (word_at_of ss i f s (omega arith) m);
}
  where
    here : (f : ℕ) → f < 5 → word (words_of (set ss n s)) n f ≡ word_in s f
    here f m = word_at_of (set ss n s) n f s (let e = length-set ss n s in omega arith) m ∙ ap (λ (x : Step). word_in x f) (get_or-set_same ss n s s h)

-- the steps that are there, by themselves
pub building_cut : {ws due : List ℕ} {n j : ℕ} (ss : List Step) → n ≤ length ss → Building ws (words_of ss) due n j → Building ws (words_of (take n ss)) due n j
building_cut {ws} {due} {n} {j} ss h b = record {
  few = b.few;
  up_to = b.up_to;
  met = b.met;
  gap = b.gap;
  sources = b.sources;
  gate = λ i l q. gate_later ws (words_of ss) (words_of (take n ss)) g (λ i l q. omega arith) kept l (b.gate i l (let e = kept i 1 l (omega arith) in omega arith));
  arithmetic = λ i l q. arithmetic_later ws (words_of ss) (words_of (take n ss)) g (λ i l q. omega arith) kept l (b.arithmetic i l (let e = kept i 1 l (omega arith) in omega arith));
  comparison = λ i l q. comparison_later ws (words_of ss) (words_of (take n ss)) g (λ i l q. omega arith) kept l (b.comparison i l (let e = kept i 1 l (omega arith) in omega arith));
}
  where
    g : Given due due n 0
    g = record { fixed = λ k m. refl; fresh = λ k m. inl refl }

    d : Step
    d = Arithmetic 0

    kept : (i f : ℕ) → i < n → f < 5 → word (words_of (take n ss)) i f ≡ word (words_of ss) i f
    kept i f l m = word_at_of (take n ss) i f d (let e = length-take-le n ss h in omega arith) m ∙ ap (λ (x : Step). word_in x f) (get_or-take n ss i d l) ∙ sym (word_at_of ss i f d (omega arith) m)

pub plan_cut : {ws due : List ℕ} {n : ℕ} (ss : List Step) → n ≤ length ss → Building ws (words_of ss) due n (size ws) → Plan ws (words_of (take n ss)) (length (take n ss))
plan_cut {ws} {due} {n} ss h b =
    let c = building_cut ss h b in
    let e = length-take-le n ss h in
    subst (λ (k : ℕ). Plan ws (words_of (take n ss)) k) (sym e) (record {
      due = at due;
      long = (let w = words_long (take n ss) in omega arith);
      sources = c.sources;
      ends = c.met;
      gate = c.gate;
      arithmetic = c.arithmetic;
      comparison = c.comparison;
    })
