-- Net j of an accepted netlist is met, and has no value yet; the words of a step. Assumes nothing.
use Rattle.std.specs.Prelude.{ℕ, take, ◌+◌, ◌*◌, ◌≤◌, ◌<◌, ◌≡◌, refl, Bool, true, false, List, length, get_or, set}
use Rattle.std.proofs.Common.{not-suc-le-zero, arith, sym, ap, subst, ◌∙◌, length-set, get_or-set_same, get_or-set_other}
use Rattle.std.proofs.Math.Decide.{dec_lt, ℕ_discrete}
use Rattle.spec_tests.specs.Rules.{◌≡?◌, ◌or◌, Fine}
use Rattle.spec_rules.specs.NetlistImage.{node_word}
use Rattle.spec_netlist.specs.Accept.{nets, accepts}
use Rattle.trace_pass.specs.declared.Step.{Step}
use Rattle.trace_pass.specs.Coded.{words_of, words_long}
use Rattle.trace_pass.specs.Plan.{size, word, Plan}
use Rattle.trace_pass.specs.Gates.{Computed}
use Rattle.trace_pass.specs.Steps.{size_is}
use Rattle.trace_plan.specs.Building.{at, Building, Pushed, start, end, passed, source, plan_cut}
use Rattle.trace_plan.specs.Kinds.{kind_few, few_nets_law, is_source_law, computed}

-- the next net
pub record Next (ws t due : List ℕ) (n j : ℕ) : Type 0 where
  pub ok : accepts ws ≡ Fine
  pub building : Building ws t due n j
  pub there : j < nets ws
  pub wide : nets ws ≤ length due
  pub long : 5 * nets ws ≤ length t

-- it has no value yet
pub record Meeting (ws t due : List ℕ) (n j : ℕ) : Type 0 where
  pub ok : accepts ws ≡ Fine
  pub building : Building ws t due n j
  pub there : j < size ws
  pub few : size ws ≤ 65535
  pub wide : size ws ≤ length due
  pub long : 5 * size ws ≤ length t
  pub unmet : n < at due j

pub meeting : {ws t due : List ℕ} {n j : ℕ} → Next ws t due n j → n < at due j → Meeting ws t due n j
meeting {ws} x d =
    let s = size_is ws in
    let h = x.there in
    let w = x.wide in
    let l = x.long in
    record { ok = x.ok; building = x.building; there = omega arith; few = few_nets_law ws x.ok; wide = omega arith; long = omega arith; unmet = d }

pub kind_met : {ws t due : List ℕ} {n j : ℕ} → Next ws t due n j → node_word ws j 0 ≤ 11
kind_met {ws} {j = j} x = kind_few ws x.ok j x.there

pub kind_meeting : {ws t due : List ℕ} {n j : ℕ} → Meeting ws t due n j → node_word ws j 0 ≤ 11
kind_meeting {ws} {j = j} x = kind_few ws x.ok j (let s = size_is ws in let h = x.there in omega arith)

-- it has its value by a step that is there; it is a source; a gate
pub next_passed : {ws t due : List ℕ} {n j : ℕ} → Next ws t due n j → at due j ≤ n → Building ws t due n (j + 1)
next_passed {ws} x d = passed x.building (let s = size_is ws in let h = x.there in omega arith) d

pub next_source : {ws t due : List ℕ} {n j : ℕ} → Next ws t due n j → n < at due j → {b : Bool} → b ≡ (node_word ws j 0 ≡? 0 or node_word ws j 0 ≡? 7 or node_word ws j 0 ≡? 9) → b ≡ true
    → Building ws t (set due j 0) n (j + 1)
next_source {ws} {j = j} x d e q =
    let s = size_is ws in
    let h = x.there in
    let w = x.wide in
    source x.building (omega arith) d (omega arith) (is_source_law ws x.ok j (omega arith) ∙ sym e ∙ q) refl

pub next_gate : {ws t due : List ℕ} {n j : ℕ} → Next ws t due n j → {b : Bool} → b ≡ (node_word ws j 0 ≡? 0 or node_word ws j 0 ≡? 7 or node_word ws j 0 ≡? 9) → b ≡ false
    → (node_word ws j 0 ≡ 10 → ⊥) → (node_word ws j 0 ≡ 11 → ⊥) → Computed (node_word ws j 0)
next_gate {ws} {j = j} x e q f g = computed (node_word ws j 0) (kind_met x) (sym e ∙ q) f g

-- ---- all nets ----

-- a table whose first words stand for "no value yet"
pub record Cleared (due : List ℕ) (n : ℕ) : Type 0 where
  pub says : (k : ℕ) → k < n → at due k ≡ 4294967295

pub cleared_none : (due : List ℕ) → Cleared due 0
cleared_none due = record { says = λ k h. absurd (not-suc-le-zero h) }

pub cleared_more : {due : List ℕ} {n : ℕ} → Cleared due n → n < length due → Cleared (set due n 4294967295) (n + 1)
cleared_more {due} {n} c h = record {
  says = λ k l. elim (ℕ_discrete k n) [
    | yes e ↦ ap (at (set due n 4294967295)) e ∙ get_or-set_same due n 4294967295 0 h
    | no e ↦ get_or-set_other due n k 4294967295 0 e ∙ c.says k (below k n l e)
  ];
}
  where
    below : (k n : ℕ) → k < n + 1 → (k ≡ n → ⊥) → k < n
    below k n l e = elim (dec_lt k n) [
      | yes m ↦ m
      | no m ↦ absurd (e (omega arith))
    ]

pub cleared_start : (ws t due : List ℕ) → Cleared due (nets ws) → Building ws t due 0 0
cleared_start ws t due c = start ws t due (λ k h. (let s = size_is ws in let e = c.says k (omega arith) in omega arith))

pub next_end : {ws t due : List ℕ} {n j : ℕ} → Building ws t due n j → nets ws ≤ j → 5 * nets ws ≤ length t → Plan ws t n
next_end {ws} {t} {due} {n} {j} b h l =
    let s = size_is ws in
    let u = b.up_to in
    let e : j ≡ size ws = omega arith in
    end (subst (λ (k : ℕ). Building ws t due n k) e b) (omega arith)

-- the front of a table of steps
pub plan_end : {ws due : List ℕ} {n j : ℕ} (ss : List Step) → Building ws (words_of ss) due n j → nets ws ≤ j → nets ws ≤ length ss → Plan ws (words_of (take n ss)) (length (take n ss))
plan_end {ws} {due} {n} {j} ss b h l =
    let s = size_is ws in
    let u = b.up_to in
    let f = b.few in
    let e : j ≡ size ws = omega arith in
    plan_cut ss (omega arith) (subst (λ (k : ℕ). Building ws (words_of ss) due n k) e b)

-- a step more has room
pub room_of : {ws due : List ℕ} {n j : ℕ} (ss : List Step) → Meeting ws (words_of ss) due n j → n < length ss
room_of ss m =
    let w = words_long ss in
    let l = m.long in
    let t = m.there in
    let f = m.building.few in
    omega arith

back : (e d : List ℕ) (n f x i g : ℕ) → e ≡ set d (5 * n + f) x → (5 * i + g ≡ 5 * n + f → ⊥) → word e i g ≡ word d i g
back e d n f x i g q h = ap (λ (l : List ℕ). get_or l (5 * i + g) 0) q ∙ get_or-set_other d (5 * n + f) (5 * i + g) x 0 h

last : (e d : List ℕ) (n f x : ℕ) → e ≡ set d (5 * n + f) x → 5 * n + f < length d → word e n f ≡ x
last e d n f x q h = ap (λ (l : List ℕ). get_or l (5 * n + f) 0) q ∙ get_or-set_same d (5 * n + f) x 0 h

-- five words written one after the other
pub pushed_words : (t : List ℕ) (n k q x y z : ℕ) → 5 * n + 5 ≤ length t → {a b c d e : List ℕ} → a ≡ set t (5 * n + 0) k → b ≡ set a (5 * n + 1) q → c ≡ set b (5 * n + 2) x
    → d ≡ set c (5 * n + 3) y → e ≡ set d (5 * n + 4) z → Pushed t e n k q x y z
pushed_words t n k q x y z h {a} {b} {c} {d} {e} ea eb ec ed ee = record {
  first = back e d n 4 z n 0 ee (λ u. omega arith) ∙ back d c n 3 y n 0 ed (λ u. omega arith) ∙ back c b n 2 x n 0 ec (λ u. omega arith)
      ∙ back b a n 1 q n 0 eb (λ u. omega arith) ∙ last a t n 0 k ea (omega arith);
  second = back e d n 4 z n 1 ee (λ u. omega arith) ∙ back d c n 3 y n 1 ed (λ u. omega arith) ∙ back c b n 2 x n 1 ec (λ u. omega arith)
      ∙ last b a n 1 q eb (let l = la in omega arith);
  third = back e d n 4 z n 2 ee (λ u. omega arith) ∙ back d c n 3 y n 2 ed (λ u. omega arith) ∙ last c b n 2 x ec (let l = lb in omega arith);
  fourth = back e d n 4 z n 3 ee (λ u. omega arith) ∙ last d c n 3 y ed (let l = lc in omega arith);
  fifth = last e d n 4 z ee (let l = ld in omega arith);
  kept = λ i f l m. back e d n 4 z i f ee (λ u. omega arith) ∙ back d c n 3 y i f ed (λ u. omega arith) ∙ back c b n 2 x i f ec (λ u. omega arith)
      ∙ back b a n 1 q i f eb (λ u. omega arith) ∙ back a t n 0 k i f ea (λ u. omega arith);
}
  where
    la : length a ≡ length t
    la = ap length ea ∙ simp length-set

    lb : length b ≡ length t
    lb = ap length eb ∙ (simp length-set) ∙ la

    lc : length c ≡ length t
    lc = ap length ec ∙ (simp length-set) ∙ lb

    ld : length d ≡ length t
    ld = ap length ed ∙ (simp length-set) ∙ lc

pub cleared_end : {due : List ℕ} {n i : ℕ} → Cleared due i → i ≤ n → n ≤ i → Cleared due n
cleared_end {due} {n} {i} c h l = let e : i ≡ n = omega arith in subst (λ (k : ℕ). Cleared due k) e c
