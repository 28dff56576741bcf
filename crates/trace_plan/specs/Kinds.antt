-- The kinds of nodes of an accepted netlist: sources, gates with their tables, cell outputs. Assumes nothing.
use Rattle.std.specs.Prelude.{ℕ, zero, suc, ◌+◌, ◌≤◌, ◌<◌, ◌≡◌, refl, Bool, true, false, not, List, [], ◌∷◌, length, get_or, set}
use Rattle.std.proofs.Common.{arith, sym, ap, ◌∙◌, get_or-set_same, get_or-set_other}
use Rattle.spec_tests.specs.Rules.{◌<?◌, ◌≡?◌, ◌or◌, pick, Fine}
use Rattle.spec_tests.specs.Laws.{yes_lt, no_lt, lt_yes, eq_yes, pick_hit, pick_skip, eq_no}
use Rattle.spec_rules.specs.NetlistImage as N
use Rattle.spec_rules.specs.NetlistImage.{netlist, node_word, node_at_of}
use Rattle.spec_netlist.specs.Accept.{nets, wrong_node_word, accepts}
use Rattle.law_told.specs.Told.{untrue, pick_no, told, few, list_starts_law, node_right}
use Rattle.law_told.proofs.Ordered.{ordered}
use Rattle.law_reads.specs.Reads.{node_of, is_source}
use Rattle.trace_pass.specs.Plan.{size, word}
use Rattle.trace_pass.specs.Gates.{table_of, Computed, constant, and_gate, or_gate, xor_gate, not_gate, mux, output, GateWords}
use Rattle.trace_pass.specs.Steps.{size_is, node_is, gate_lower}
use Rattle.trace_pass.proofs.Steps.{gate_step}
use Rattle.trace_plan.specs.Building.{at, Building, Pushed, only_new, given_one, pushed}

pub kind_few : (ws : List ℕ) → accepts ws ≡ Fine → (k : ℕ) → k < nets ws → node_word ws k 0 ≤ 11
unfolding wrong_node_word
kind_few ws ok k h =
    let t = told ws ok in
    let l = few ws t in
    no_lt 11 (node_word ws k 0) (sym (pick_no (not (k <? nets ws)) _ _ (ap not (lt_yes k (nets ws) h)) ∙ sym (pick_hit _ (eq_yes 0 0 refl) refl)) ∙ node_right ws t k 0 (omega arith) (omega arith))

pub few_nets_law : (ws : List ℕ) → accepts ws ≡ Fine → size ws ≤ 65535
few_nets_law ws ok =
    let t = told ws ok in
    let a = few ws t in
    let b = (list_starts_law ws t).1 in
    let c = size_is ws in
    omega arith

-- ---- sources ----

source_kind : (kind o b x y z : ℕ) → kind ≤ 11 → is_source (N.node_of kind o b x y z) ≡ (kind ≡? 0 or kind ≡? 7 or kind ≡? 9)
unfolding N.node_of is_source ◌≡?◌ ◌or◌
source_kind zero o b x y z h = refl
source_kind (suc zero) o b x y z h = refl
source_kind (suc (suc zero)) o b x y z h = refl
source_kind (suc (suc (suc zero))) o b x y z h = refl
source_kind (suc (suc (suc (suc zero)))) o b x y z h = refl
source_kind (suc (suc (suc (suc (suc zero))))) o b x y z h = refl
source_kind (suc (suc (suc (suc (suc (suc zero)))))) o b x y z h = refl
source_kind (suc (suc (suc (suc (suc (suc (suc zero))))))) o b x y z h = refl
source_kind (suc (suc (suc (suc (suc (suc (suc (suc zero)))))))) o b x y z h = refl
source_kind (suc (suc (suc (suc (suc (suc (suc (suc (suc zero))))))))) o b x y z h = refl
source_kind (suc (suc (suc (suc (suc (suc (suc (suc (suc (suc zero)))))))))) o b x y z h = refl
source_kind (suc (suc (suc (suc (suc (suc (suc (suc (suc (suc (suc zero))))))))))) o b x y z h = refl
source_kind (suc (suc (suc (suc (suc (suc (suc (suc (suc (suc (suc (suc kind)))))))))))) o b x y z h = absurd (omega arith)

pub is_source_law : (ws : List ℕ) → accepts ws ≡ Fine → (k : ℕ) → k < size ws → is_source (node_of (netlist ws) k) ≡ (node_word ws k 0 ≡? 0 or node_word ws k 0 ≡? 7 or node_word ws k 0 ≡? 9)
unfolding node_at_of
is_source_law ws ok k h =
    ap is_source (node_is ws k h) ∙ source_kind (node_word ws k 0) (node_word ws k 1) (node_word ws k 2) (node_word ws k 3) (node_word ws k 4) (node_word ws k 5) (kind_few ws ok k (let e = size_is ws in omega arith))

-- ---- gates ----

pub computed : (kind : ℕ) → kind ≤ 11 → (kind ≡? 0 or kind ≡? 7 or kind ≡? 9) ≡ false → (kind ≡ 10 → ⊥) → (kind ≡ 11 → ⊥) → Computed kind
unfolding ◌≡?◌ ◌or◌
computed zero h e f g = absurd (untrue (sym e))
computed (suc zero) h e f g = constant
computed (suc (suc zero)) h e f g = and_gate
computed (suc (suc (suc zero))) h e f g = or_gate
computed (suc (suc (suc (suc zero)))) h e f g = xor_gate
computed (suc (suc (suc (suc (suc zero))))) h e f g = not_gate
computed (suc (suc (suc (suc (suc (suc zero)))))) h e f g = mux
computed (suc (suc (suc (suc (suc (suc (suc zero))))))) h e f g = absurd (untrue (sym e))
computed (suc (suc (suc (suc (suc (suc (suc (suc zero)))))))) h e f g = output
computed (suc (suc (suc (suc (suc (suc (suc (suc (suc zero))))))))) h e f g = absurd (untrue (sym e))
computed (suc (suc (suc (suc (suc (suc (suc (suc (suc (suc zero)))))))))) h e f g = absurd (f refl)
computed (suc (suc (suc (suc (suc (suc (suc (suc (suc (suc (suc zero))))))))))) h e f g = absurd (g refl)
computed (suc (suc (suc (suc (suc (suc (suc (suc (suc (suc (suc (suc kind)))))))))))) h e f g = absurd (omega arith)

-- the tables by kind, a constant's aside
abbrev pub tables : List ℕ
tables = 170 ∷ 0 ∷ 136 ∷ 238 ∷ 102 ∷ 85 ∷ 216 ∷ 170 ∷ 170 ∷ 170 ∷ 170 ∷ 170 ∷ []

pub table_other : (kind owner : ℕ) → kind ≤ 11 → (kind ≡ 1 → ⊥) → (get_or tables kind 0 ≡ table_of kind owner) × (get_or tables kind 0 < 256)
unfolding table_of
table_other zero owner h n = (refl, omega arith)
table_other (suc zero) owner h n = absurd (n refl)
table_other (suc (suc zero)) owner h n = (refl, omega arith)
table_other (suc (suc (suc zero))) owner h n = (refl, omega arith)
table_other (suc (suc (suc (suc zero)))) owner h n = (refl, omega arith)
table_other (suc (suc (suc (suc (suc zero))))) owner h n = (refl, omega arith)
table_other (suc (suc (suc (suc (suc (suc zero)))))) owner h n = (refl, omega arith)
table_other (suc (suc (suc (suc (suc (suc (suc zero))))))) owner h n = (refl, omega arith)
table_other (suc (suc (suc (suc (suc (suc (suc (suc zero)))))))) owner h n = (refl, omega arith)
table_other (suc (suc (suc (suc (suc (suc (suc (suc (suc zero))))))))) owner h n = (refl, omega arith)
table_other (suc (suc (suc (suc (suc (suc (suc (suc (suc (suc zero)))))))))) owner h n = (refl, omega arith)
table_other (suc (suc (suc (suc (suc (suc (suc (suc (suc (suc (suc zero))))))))))) owner h n = (refl, omega arith)
table_other (suc (suc (suc (suc (suc (suc (suc (suc (suc (suc (suc (suc kind)))))))))))) owner h n = absurd (omega arith)

pub table_constant : (kind owner : ℕ) → kind ≡ 1 → table_of kind owner ≡ pick (owner ≡? 1) 255 0
unfolding table_of
table_constant kind owner e = ap (λ (k : ℕ). get_or (170 ∷ pick (owner ≡? 1) 255 0 ∷ 136 ∷ 238 ∷ 102 ∷ 85 ∷ 216 ∷ 170 ∷ 170 ∷ 170 ∷ 170 ∷ 170 ∷ []) k 0) e

-- a net that is not below k stands for k itself
abbrev pub lowered : ℕ → ℕ → ℕ
lowered x k = pick (x <? k) x k

lowered_is : (x k : ℕ) → x < k → lowered x k ≡ x
lowered_is x k h = sym (pick_hit k (lt_yes x k h) refl)

lowered_most : (x k : ℕ) → lowered x k ≤ k
unfolding pick
lowered_most x k = go (x <? k) refl
  where
    go : (b : Bool) → (x <? k) ≡ b → pick b x k ≤ k
    go true e = let l = yes_lt x k e in omega arith
    go false e = omega arith

pub gate_built : {ws t t' due due' : List ℕ} {n j : ℕ} → accepts ws ≡ Fine → Building ws t due n j → j < size ws → j < length due → n < at due j → Computed (node_word ws j 0)
    → due' ≡ set due j (n + 1) → {q x y z : ℕ} → q ≡ table_of (node_word ws j 0) (node_word ws j 1) → q < 256
    → x ≡ lowered (node_word ws j 3) j → y ≡ lowered (node_word ws j 4) j → z ≡ lowered (node_word ws j 5) j
    → Pushed t t' n j q x y z → Building ws t' due' (n + 1) (j + 1)
gate_built {ws} {t} {t'} {due} {due'} {n} {j} ok b h room d kind e {q} {x} {y} {z} eq low ex ey ez p =
    let g = given_one due n j (n + 1) d room in
    rw e (pushed b h g (let s = get_or-set_same due j (n + 1) 0 room in omega arith) p
    (λ l. gate_step (ordered ws ok) words (
      (omega (arith, p.third, lowered_most (node_word ws j 3) j)),
      (omega (arith, p.fourth, lowered_most (node_word ws j 4) j), omega (arith, p.fifth, lowered_most (node_word ws j 5) j)),
    )
    (λ k m u v. only_new (set due j (n + 1)) b (few_nets_law ws ok) k m (get_or-set_other due j k (n + 1) 0 (λ w. v (w ∙ sym p.first))) u))
    (λ l. absurd (omega arith)) (λ l. absurd (omega arith)))
  where
    low_net : (u w f : ℕ) → u < j → w ≡ f → f ≡ lowered u j → (w ≡ u) × ((u < size ws) × (at (set due j (n + 1)) u ≤ n))
    low_net u w f l a c =
        let m = b.met u l in
        let o = get_or-set_other due j u (n + 1) 0 (λ i. absurd (omega arith)) in
        (a ∙ c ∙ lowered_is u j l, (omega arith, omega arith))

    words : GateWords ws t' (at (set due j (n + 1))) n j
    words =
        let o = gate_lower ws j (ordered ws ok) h kind in
        record {
          inside = h;
          kind = kind;
          target = p.first;
          table = p.second ∙ eq;
          first = λ l. low_net (node_word ws j 3) (word t' n 2) x (o.first l) p.third ex;
          second = λ l. low_net (node_word ws j 4) (word t' n 3) y (o.second l) p.fourth ey;
          third = λ l. low_net (node_word ws j 5) (word t' n 4) z (o.third l) p.fifth ez;
        }

pub constant_one : (kind owner : ℕ) → kind ≡ 1 → owner ≡ 1 → (255 ≡ table_of kind owner) × (255 < 256)
constant_one kind owner e f = (sym (table_constant kind owner e ∙ sym (pick_hit 0 (eq_yes owner 1 f) refl)), omega arith)

pub constant_zero : (kind owner : ℕ) → kind ≡ 1 → (owner ≡ 1 → ⊥) → (0 ≡ table_of kind owner) × (0 < 256)
constant_zero kind owner e f = (sym (table_constant kind owner e ∙ sym (pick_skip 255 (eq_no owner 1 f) refl)), omega arith)
