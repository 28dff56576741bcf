-- From what is known on the way through building to what it promises: what the reads ask, that the nets made are numbers of nets, and what
-- is left at the end. Assumes nothing.
use mathlib.Core.Path.{◌≡◌, refl, sym, ap, subst, ◌∙◌}
use mathlib.Core.Bool.{Bool, true}
use mathlib.Core.List.{List, [], ◌∷◌}
use mathlib.Core.Option.{none}
use Prim.Native.Nat.{ℕ, ◌+◌, ◌*◌, ◌-◌, ◌≤◌, ◌<◌}
use native.Mathlib.Omega.{arith}
use borrow.Rule.Slice.PartMut.{put_mid}
use lib.ListN.{length, get_or, take, drop}
use lib.Seq.{length-take-le}
use Rattle.spec_rtl.specs.Rtl.{Valuation}
use Rattle.spec_rules.specs.Image.{count_at_of, expr_width}
use Rattle.spec_rules.specs.NetlistImage as N
use Rattle.spec_rules.specs.NetlistImage.{node_of}
use Rattle.spec_model.specs.Words.{Node, Netlist}
use Rattle.spec_model.specs.Builder.{Made, Out, refused, done, node_for_net}
use Rattle.spec_model.specs.Ranges as ranges
use Rattle.spec_model.specs.Lowering.{State, Need, Bit, Whole, Range, Step, Always, Unless, with_netlist, whole, whole_steps, range_steps_of, set_whole, set_range, keep_whole, keep_range}
use Rattle.image_records.specs.Expr.{kind_means, expression_of, decoded}
use Rattle.image_records.specs.declared.ExprKind.{ExprKind}
use Rattle.image_records.specs.declared.ExprKind.TheVariants as K
use Rattle.law_accepted.specs.Fits.{kind_fits_of}
use Rattle.law_accepted.specs.Formed.{readable}
use Rattle.expr_laws.specs.Exprs.{exprs_of, kind_read}
use Rattle.law_nets.specs.Meaning.{decode}
use Rattle.law_nets.specs.Sound.{count, Wired, Sound}
use Rattle.net_gates.specs.Nots.{PlainNots, not_there}
use Rattle.net_view.specs.View.{netlist_of}
use Rattle.net_index.specs.Index.{Held}
use Rattle.net_fold.specs.Values.{filled_of, Fills}
use Rattle.std.specs.Prelude.{Result, Ok, Err}
use Rattle.net_nodes.specs.declared.Full.{Full}
use Rattle.net_nodes.specs.declared.Full.TheVariants.{Nets, List as ListFull}
use Rattle.scratch_view.specs.View.{limit_of, Writes}
use Rattle.scratch_view.specs.Bounds.{whole_told, expr_count, expr_width_law}
use Rattle.scratch_tables.specs.Answers.{Small}
use Rattle.walk_operands.specs.Tasks.{JobFits, Read, job_made}
use Rattle.walk_operands.specs.declared.Job.{Job}
use Rattle.walk_operands.specs.AskedWhole.{NeedWhole, AllWhole, SignalIn, Tabled, Asked}
use Rattle.walk_operands.specs.AskedRange.{AskedRange}
use Rattle.law_walk.specs.Kept.{Table, NetsGive, Makes}
use Rattle.law_walk.specs.Reads.{below_at}
use Rattle.walk_plan.specs.Plan.{step_needs}
use Rattle.walk_plan.specs.Fits.{AllFit}
use Rattle.walk_view.specs.Image.{fits, width_is}
use Rattle.walk_view.specs.Met.{met, AllMet, Grows, grows_netlist, grows_whole, grows_range, meets_whole, meets_range}
use Rattle.walk_view.specs.View.{index_of, walk_state, There, Ready, Sure, Builds, out_of}
use Rattle.walk_view.specs.Refusals.{Lowered}
use Rattle.walk_view.specs.Stores.{kept_then, stored_ready, stored_kept, stored_state}
use Rattle.walk_invariant.specs.Stores.{lent_stays, lent_ready, lent_kept, lent_state}
use Rattle.walk_invariant.specs.Makes.{has, whole_there, range_there, makes_below}
use Rattle.walk_keep.specs.Keeps.{lowered_of, stored_by, Keeps}
use Rattle.walk_build.specs.Built.{Performed}

-- ---- what the reads ask ----

signal_in : (s : List ℕ) (e v : ℕ) (k : ExprKind) → kind_fits_of s e v k → SignalIn s v (kind_means s v k)
unfolding kind_means
signal_in s e v (K.Signal p lsb) f = f
signal_in s e v (K.Constant start) f = tt
signal_in s e v (K.Unary op a) f = tt
signal_in s e v (K.Binary op a b) f = tt
signal_in s e v (K.Mux c t d) f = tt
signal_in s e v (K.Concat start n) f = tt
signal_in s e v (K.Slice a lsb) f = tt

module _ (s net w : List ℕ) (r : Ready s net w) (e : ℕ) (h : e < count_at_of s 1) where
  tabled : Tabled s w e
  tabled =
      let x = expression_of s e in
      let k : (ranges.expr_at (exprs_of s) e).kind ≡ kind_means s x.width x.kind = kind_read s (readable s r.accepted) e h x (decoded s e x refl) in
      let k' : (ranges.expr_at (exprs_of s) e).kind ≡ kind_means s (expr_width s e) x.kind = k ∙ ap (λ (v : ℕ). kind_means s v x.kind) (width_is s e) in
      record {
        laid = r.laid;
        readable = readable s r.accepted;
        inside = h;
        signals = subst (SignalIn s (expr_width s e)) (sym k') (signal_in s e (expr_width s e) x.kind (fits s e r.accepted h));
        narrowed = r.narrowed e h;
      }

  need_whole : (n : Need) → There s n → met (walk_state s net w) n ≡ true → NeedWhole s w n
  unfolding met
  need_whole (Bit p b) t m = tt
  need_whole (Whole d) t m =
      let q = has (whole (walk_state s net w) d) m in
      whole_told s w (netlist_of (limit_of w) net) d r.laid t q.value q.is
  need_whole (Range d lsb k) t m = tt

  all_whole : (c : ℕ) (ss : List Step) → AllFit s c (step_needs ss) → AllMet (walk_state s net w) ss → AllWhole s w ss
  all_whole c [] f m = tt
  all_whole c (Always n ∷ ss) f m = (need_whole n f.0.0 m.0, all_whole c ss f.1 m.1)
  all_whole c (Unless x v n ∷ ss) f m = (need_whole n f.0.0 m.0, all_whole c ss f.1 m.1)

  pub asked : AllMet (walk_state s net w) (whole_steps (exprs_of s) e) → Asked s w e
  asked m = record { tabled = tabled; whole = all_whole (2 * e + 1) (whole_steps (exprs_of s) e) (whole_there s r.accepted e h) m }

  pub asked_range : (lsb k : ℕ) → 1 ≤ k → lsb + k ≤ expr_width s e → AllMet (walk_state s net w) (range_steps_of (exprs_of s) e lsb k) → AskedRange s w e lsb k
  asked_range lsb k l i m = record {
    tabled = tabled;
    least = l;
    inside = i;
    whole = all_whole (2 * e + 2) (range_steps_of (exprs_of s) e lsb k) (range_there s r.accepted e h lsb k i) m;
  }

-- ---- what is made ----

-- no Not of a sound netlist has a Not or a constant as its input
not_node : (x : Node) → x.kind ≡ 5 → decode x ≡ N.Not x.in0
unfolding decode node_of
not_node x e = rw e

pub plain_nots : (l : Netlist) → Sound l → PlainNots l
plain_nots l q = record {
  all = λ i e.
      let w = subst (λ (x : N.Node). Wired l i x) (not_node (node_for_net l i) e) (q.wired i (not_there l i e)) in
      record { lower = w.0; constant = w.1.constant; inverter = w.1.inverter };
}

-- the index is lent from word 64 on, to the end as the code has it
pub lent : (s net w : List ℕ) → Ready s net w → Held (limit_of w) net (take (64 + 4 * limit_of w - 64) (drop 64 w))
lent s net w r = let n : 4 * limit_of w ≡ 64 + 4 * limit_of w - 64 = omega arith in subst (λ (k : ℕ). Held (limit_of w) net (take k (drop 64 w))) n r.held

pub make_way : (model : Made (List ℕ)) (s net w net' idx out : List ℕ) (r : Result (Unit {0}) Full) → Ready s net w → length net' ≡ length net → Fills model (limit_of w) r out net' idx
    → Performed model s net w r out net' (put_mid 64 (64 + 4 * limit_of w - 64) w idx)
make_way model s net w net' idx out r g l f = record {
  says = f.says;
  ready = lent_ready s net w net' idx g l f.held;
  kept = lent_kept s net w net' idx g l f.held;
  limit = (lent_stays s net w net' idx g l f.held).limit;
  state = lent_state s net w net' idx g l f.held;
}

-- the width as it was read
pub read_at : {m : ℕ} (model : Netlist → Made (List ℕ)) (s xs ys : List ℕ) (k v : ℕ) (j : Job) → k ≡ v → Read m model s v j xs ys → Read m model s k j xs ys
read_at {m} model s xs ys k v j q a = subst (λ (n : ℕ). Read m model s n j xs ys) (sym q) a

-- the room as it was read
pub fits_at : (k m v : ℕ) (j : Job) → k ≡ m → JobFits m v j → JobFits k v j
fits_at k m v j e f = subst (λ (n : ℕ). JobFits n v j) (sym e) f

-- the nets made have room in the list
pub room : (k m : ℕ) (xs' xs : List ℕ) → k ≤ m → length xs' ≡ length xs → length xs ≡ m → k ≤ length xs'
room k m xs' xs h l e = omega arith

-- a job's nets are what the model makes
pub job_model : {m : ℕ} (model : Netlist → Made (List ℕ)) (s net w xs ys : List ℕ) (k : ℕ) (j : Job) (l : Netlist) (r : Result (Unit {0}) Full) (out net' w' : List ℕ) → Read m model s k j xs ys
    → Performed (job_made s k j xs ys l) s net w r out net' w' → Performed (model l) s net w r out net' w'
job_model model s net w xs ys k j l r out net' w' a p = record {
  says = a.says l ∙ p.says;
  ready = p.ready;
  kept = p.kept;
  limit = p.limit;
  state = p.state;
}

-- the nets made are numbers of nets
pub small : {l : Netlist} {t : Table} {u : Valuation → List Bool} (model : Made (List ℕ)) (s net w net' w' xs : List ℕ) (k : ℕ) (r : Result (Unit {0}) Full) → k ≤ length xs
    → Makes l (λ ns l₁. NetsGive l₁ t ns u) model → Performed model s net w r (take k xs) net' w' → r ≡ Ok tt → Small (length (take k xs)) (take k xs)
small model s net w net' w' xs k r long m p e i v =
    let l = netlist_of (limit_of w) net' in
    let b = makes_below model (take k xs) l m (p.says ∙ ap (λ (x : Result (Unit {0}) Full). filled_of x (take k xs) l) e) in
    let x = below_at (count l) (take k xs) i 0 (omega (arith, length-take-le k xs long)) b in
    let q = subst (λ (n : ℕ). Held n net' (index_of w')) p.limit p.ready.held in
    omega (arith, x, q.built.fit.few, q.built.nets)

-- ---- what is left at the end ----

-- the model's keep of nets, and of a refusal
pub record Stores (st : State) (op : State → State) (out : List ℕ) (keep : Made (List ℕ) → Out State) : Type 0 where
  pub made : (l : Netlist) → keep (done (out, l)) ≡ done (op (with_netlist st l))
  pub refuses : (n x y : ℕ) → keep (refused n x y) ≡ refused n x y

module _ (model : Made (List ℕ)) (s net w net' w₁ w' out : List ℕ) (n : Need) (op : State → State) (keep : Made (List ℕ) → Out State) (long : length w' ≡ length w₁)
    (k : Stores (walk_state s net w) op out keep) (grow : Grows (walk_state s net' w₁) (op (walk_state s net' w₁))) (meet : met (op (walk_state s net' w₁)) n ≡ true) where
  says : (made : Result (Unit {0}) Full) → Performed model s net w made out net' w₁ → Writes (stored_by made op) s w₁ w' → keep model ≡ out_of (lowered_of made) (walk_state s net' w')
  says (Ok u) p x =
      ap keep p.says ∙ k.made (netlist_of (limit_of w) net') ∙ ap (λ (st : State). done (op st)) (sym p.state)
      ∙ ap (λ (st : State). done st) (sym (stored_state op s net' w₁ w' p.ready x long))
  says (Err Nets) p x = ap keep p.says ∙ k.refuses 9 0 0
  says (Err ListFull) p x = ap keep p.says ∙ k.refuses 10 0 0

  stored_grow : (made : Result (Unit {0}) Full) → Grows (walk_state s net' w₁) (stored_by made op (walk_state s net' w₁))
  stored_grow (Ok u) = grow
  stored_grow (Err e) = λ m h. h

  meets : (made : Result (Unit {0}) Full) → lowered_of made ≡ Ok tt → met (stored_by made op (walk_state s net' w₁)) n ≡ true
  meets (Ok u) e = meet
  meets (Err r) e = let z : ◌≡◌ {A = ℕ} 0 1 = cc in absurd (omega arith)

  pub built : (made : Result (Unit {0}) Full) (r : Lowered) → Performed model s net w made out net' w₁ → Keeps op s w₁ made r w' → Builds (keep model) s net w n r net' w'
  built made r p x =
      let f = stored_state (stored_by made op) s net' w₁ w' p.ready x.writes long in
      subst (λ (y : Lowered). Builds (keep model) s net w n y net' w') (sym x.answers)
      (record {
        says = says made p x.writes;
        ready = stored_ready (stored_by made op) s net' w₁ w' p.ready x.writes long;
        kept = kept_then s net w net' w₁ net' w' p.kept (stored_kept (stored_by made op) s net' w₁ w' p.ready x.writes long);
        meets = λ e. ap (λ (st : State). met st n) f ∙ meets made e;
        grows = λ m h. ap (λ (st : State). met st m) f ∙ stored_grow made m (ap (λ (st : State). met st m) p.state ∙ grows_netlist (walk_state s net w) (netlist_of (limit_of w) net') m h);
      })

module _ (s net w net' w₁ w' xs : List ℕ) (e : ℕ) (made : Result (Unit {0}) Full) (r : Lowered) (i : Sure s net w) (h : e < count_at_of s 1) (long : length w' ≡ length w₁) where
  whole_stores : (k : ℕ) → Stores (walk_state s net w) (λ st. set_whole st e (take k xs)) (take k xs) (keep_whole (walk_state s net w) e)
  unfolding keep_whole
  whole_stores k = record { made = λ l. refl; refuses = λ n x y. refl }

  range_stores : (lsb k : ℕ) → Stores (walk_state s net w) (λ st. set_range st e lsb (take k xs)) (take k xs) (keep_range (walk_state s net w) e lsb)
  unfolding keep_range
  range_stores lsb k = record { made = λ l. refl; refuses = λ n x y. refl }

  pub built_whole : (k : ℕ) (model : Made (List ℕ)) → Performed model s net w made (take k xs) net' w₁ → Keeps (λ st. set_whole st e (take k xs)) s w₁ made r w'
      → Builds (keep_whole (walk_state s net w) e model) s net w (Whole e) r net' w'
  built_whole k model p x =
      let there : e < length (walk_state s net' w₁).expression_bits = subst (λ (st : State). e < length st.expression_bits) (sym p.state) (omega (arith, i.entries, expr_count s)) in
      built model s net w net' w₁ w' (take k xs) (Whole e) (λ st. set_whole st e (take k xs)) (keep_whole (walk_state s net w) e) long (whole_stores k)
      (grows_whole (walk_state s net' w₁) e (take k xs)) (meets_whole (walk_state s net' w₁) e (take k xs) there) made r p x

  -- the row of an expression that is not whole has its width
  row_room : (lsb k : ℕ) → lsb + k ≤ expr_width s e → k ≤ length xs → (l : Netlist) → whole (with_netlist (walk_state s net w) l) e ≡ none
      → lsb + length (take k xs) ≤ length (get_or (with_netlist (walk_state s net w) l).expression_ranges e [])
  unfolding whole
  row_room lsb k inside fit l q =
      let u : e < length (exprs_of s) = omega (arith, expr_count s) in
      omega (arith, length-take-le k xs fit, i.cells e u q, expr_width_law s e h)

  pub built_range : (lsb k : ℕ) → lsb + k ≤ expr_width s e → k ≤ length xs → (model : Made (List ℕ)) → Performed model s net w made (take k xs) net' w₁
      → Keeps (λ st. set_range st e lsb (take k xs)) s w₁ made r w' → Builds (keep_range (walk_state s net w) e lsb model) s net w (Range e lsb k) r net' w'
  built_range lsb k inside fit model p x =
      let room = subst (λ (st : State). whole st e ≡ none → lsb + length (take k xs) ≤ length (get_or st.expression_ranges e [])) (sym p.state)
      (row_room lsb k inside fit (netlist_of (limit_of w) net')) in
      let there : e < length (walk_state s net' w₁).expression_ranges = subst (λ (st : State). e < length st.expression_ranges) (sym p.state) (omega (arith, i.rows, expr_count s)) in
      built model s net w net' w₁ w' (take k xs) (Range e lsb k) (λ st. set_range st e lsb (take k xs)) (keep_range (walk_state s net w) e lsb) long (range_stores lsb k)
      (grows_range (walk_state s net' w₁) e lsb (take k xs) room)
      (subst (λ (m : ℕ). met (set_range (walk_state s net' w₁) e lsb (take k xs)) (Range e lsb m) ≡ true) (length-take-le k xs fit)
      (meets_range (walk_state s net' w₁) e lsb (take k xs) room there)) made r p x
