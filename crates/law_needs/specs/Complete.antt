-- What the walk has lowered reads only bits with P, where a bit has P as soon as it has a net, its driver is lowered whole and all that its
-- driver reads has P (flag false). P may speak of the state, and stays as nets are added. Assumes nothing.
use Rattle.std.specs.Prelude.{◌≡◌, ◌⊎◌, Bool, set}
use Rattle.std.proofs.Math.Path.{refl, subst}
use Rattle.std.proofs.Common.{sym, ap, ap₂, ◌∙◌, inl, inr, arith, get_or-set_same, get_or-set_other}
use Rattle.std.proofs.Math.Logic.{⊎_elim}
use Rattle.std.proofs.Math.Bool.{true, false}
use mathlib.Core.List.{List, [], ◌∷◌, map}
use Rattle.std.proofs.Math.Option.{Option, none, some}
use Prim.Native.Nat.{ℕ, zero, suc, ◌+◌, ◌≤◌, ◌<◌}
use Rattle.std.proofs.Math.Decide.{ℕ_discrete}
use Rattle.std.proofs.Math.ListN.{length, get_or}
use Rattle.std.proofs.lemmas.List.{length-map}
use Rattle.std.proofs.lemmas.List.Edits.{sets, sets-eq}
use Rattle.spec_rtl.specs.Ops.{slice_w}
use Rattle.spec_rtl.specs.Rtl.{Module, word}
use Rattle.spec_model.specs.Words.{Netlist}
use Rattle.spec_model.specs.Builder.{Out, refused, done, and_then, Made}
use Rattle.spec_model.specs.Ranges.{width_at}
use Rattle.spec_model.specs.Lowering.{State, Need, Bit, Whole, Range, Step, Always, Unless, cell, put, whole, with_netlist, set_signal_bit, mark, set_whole, set_range, ranges_by, signal_bit, range_known, driven_net, lower_steps, driver_of, drive, resolve_signal_bit, keep_whole, lower_expression, keep_range, lower_expression_range, lower_by, lower_need, plenty, lower_all, whole_steps, range_steps_of, build_whole, build_range}
use Rattle.word_laws.specs.Values.{slice_wide}
use Rattle.word_laws.specs.Widths.{word_width}
use Rattle.law_nets.specs.Run.{Meets}
use Rattle.law_walk.specs.Tables.{none_some, Has, same_cell, put_same, put_other}
use Rattle.law_walk.specs.Good.{Good}
use Rattle.law_walk.specs.Kept.{HeldBy, Held, Inv, Grew, Any, Walks, Makes, NetsGive}
use Rattle.law_walk.specs.Reads.{Asked, After, AllAsked, AllAfter}
use Rattle.law_walk.proofs.ReadsLaws.{known_after}
use Rattle.law_walk.specs.Gates.{Gates}
use Rattle.law_walk.specs.Writes.{holds_length, inv_mark}
use Rattle.law_walk.proofs.Parts.{range_made}
use Rattle.law_walk.specs.Walk.{whole_asked, range_asked}
use Rattle.law_walk.proofs.Walk.{assigned, Lowers, steps_walk, need_walk}
use Rattle.spec_needs.specs.Reads.{Place}
use Rattle.law_needs.specs.Covers.{Ok, Every, NeedOk, AllOk, whole_covers, range_covers, need_map}

-- ---- rows ----

sets_old : (ns : List ℕ) (row : List (Option ℕ)) (i b k : ℕ) → get_or (sets row i (map some ns)) b none ≡ some k → ((i ≤ b) × (b < i + length ns)) ⊎ (get_or row b none ≡ some k)
sets_old [] row i b k e = inr e
sets_old (n ∷ ns) row i b k e =
    ⊎_elim (λ (h : (suc i ≤ b) × (b < suc i + length ns)). inl (omega (arith, h.0), omega (arith, h.1)))
    (λ (h : get_or (set row i (some n)) b none ≡ some k). go h (ℕ_discrete b i)) (sets_old ns (set row i (some n)) (suc i) b k e)
  where
    go : get_or (set row i (some n)) b none ≡ some k → Dec (b ≡ i) → ((i ≤ b) × (b < i + suc (length ns))) ⊎ (get_or row b none ≡ some k)
    go h (yes q) = inl (omega arith, omega arith)
    go h (no q) = inr (sym (get_or-set_other row i b (some n) none q) ∙ h)

-- whatever has a net reads only bits with P
pub record Fine (m : Module) (P : Place → Type 0) (st : State) : Type 0 where
  pub bits : (p i n : ℕ) → cell none st.signal_bits p i ≡ some n → P (p, i)
  pub wholes : (e : ℕ) (ns : List ℕ) → whole st e ≡ some ns → Every m.exprs P e
  pub ranges : (e b n : ℕ) → cell none st.expression_ranges e b ≡ some n → Ok m.exprs P e b

pub fine_map : (m : Module) {P Q : Place → Type 0} {st : State} → ((x : Place) → P x → Q x) → Fine m P st → Fine m Q st
fine_map m k f = record {
  bits = λ p i n e. k (p, i) (f.bits p i n e);
  wholes = λ e ns q i h x y. k x (f.wholes e ns q i h x y);
  ranges = λ e b n q x y. k x (f.ranges e b n q x y);
}

module _ (m : Module) (P : Place → Type 0) where
  pub fine_mark : (st : State) (s b : ℕ) → Fine m P st → Fine m P (mark st s b)
  unfolding mark whole
  fine_mark st s b f = record { bits = f.bits; wholes = f.wholes; ranges = f.ranges }

  pub fine_netlist : (st : State) (l : Netlist) → Fine m P st → Fine m P (with_netlist st l)
  unfolding whole
  fine_netlist st l f = record { bits = f.bits; wholes = f.wholes; ranges = f.ranges }

  fine_bit : (st : State) (s b n : ℕ) → Fine m P st → P (s, b) → Fine m P (set_signal_bit st s b n)
  unfolding set_signal_bit whole
  fine_bit st s b n f p = record {
    bits = λ q i k e. ⊎_elim (λ (z : (q ≡ s) × (i ≡ b)). subst (λ (x : ℕ). P (x, i)) (sym z.0) (subst (λ (y : ℕ). P (s, y)) (sym z.1) p))
        (λ z. f.bits q i k (sym (put_other none st.signal_bits s b (some n) q i z) ∙ e)) (same_cell q i s b);
    wholes = f.wholes;
    ranges = f.ranges;
  }

  fine_whole : (st : State) (e : ℕ) (ns : List ℕ) → length st.expression_ranges ≡ length m.exprs → e < length m.exprs → Fine m P st → Every m.exprs P e → Fine m P (set_whole st e ns)
  unfolding set_whole whole
  fine_whole st e ns i h f v = record {
    bits = f.bits;
    wholes = λ x ks q. wholes x ks q (ℕ_discrete x e);
    ranges = λ x b k q. ranges x b k q (ℕ_discrete x e);
  }
    where
      wholes : (x : ℕ) (ks : List ℕ) → get_or (set st.expression_bits e (some ns)) x none ≡ some ks → Dec (x ≡ e) → Every m.exprs P x
      wholes x ks q (yes p) = subst (Every m.exprs P) (sym p) v
      wholes x ks q (no p) = f.wholes x ks (sym (get_or-set_other st.expression_bits e x (some ns) none p) ∙ q)

      ranges : (x b k : ℕ) → get_or (get_or (set st.expression_ranges e []) x []) b none ≡ some k → Dec (x ≡ e) → Ok m.exprs P x b
      ranges x b k q (yes p) =
          let z : get_or (set st.expression_ranges e []) x [] ≡ [] = ap (λ (j : ℕ). get_or (set st.expression_ranges e []) j []) p ∙ get_or-set_same st.expression_ranges e [] [] (omega arith) in
          absurd (none_some (sym (ap (λ (r : List (Option ℕ)). get_or r b none) z) ∙ q))
      ranges x b k q (no p) = f.ranges x b k (sym (ap (λ (r : List (Option ℕ)). get_or r b none) (get_or-set_other st.expression_ranges e x [] [] p)) ∙ q)

  fine_range : (st : State) (e lsb : ℕ) (ns : List ℕ) → length st.expression_ranges ≡ length m.exprs
      → (whole st e ≡ none → length (get_or st.expression_ranges e []) ≡ width_at m.exprs e) → e < length m.exprs → lsb + length ns ≤ width_at m.exprs e → Fine m P st
      → NeedOk m.exprs P (Range e lsb (length ns)) → Fine m P (set_range st e lsb ns)
  unfolding set_range whole
  fine_range st e lsb ns i j h fits f v = record {
    bits = f.bits;
    wholes = f.wholes;
    ranges = λ x b k q. ranges x b k q (ℕ_discrete x e);
  }
    where
      row : List (Option ℕ)
      row = get_or st.expression_ranges e []

      old : (b k : ℕ) (o : Option (List ℕ)) → get_or st.expression_bits e none ≡ o → get_or (ranges_by o row lsb ns) b none ≡ some k → Ok m.exprs P e b
      old b k (some ks) z q = f.ranges e b k q
      old b k none z q =
          let n : length (map some ns) ≡ length ns = length-map ns (λ (n : ℕ). some n) in
          let r : lsb + length (map some ns) ≤ length row = omega (arith, j z) in
          let s : sets row lsb (map some ns) ≡ ranges_by none row lsb ns = sets-eq (map some ns) row lsb r ∙ rw n in
          ⊎_elim (λ (y : (lsb ≤ b) × (b < lsb + length ns)). v b y.0 y.1) (λ y. f.ranges e b k y)
          (sets_old ns row lsb b k (ap (λ (r : List (Option ℕ)). get_or r b none) s ∙ q))

      ranges : (x b k : ℕ) → get_or (get_or (set st.expression_ranges e (ranges_by (get_or st.expression_bits e none) row lsb ns)) x []) b none ≡ some k → Dec (x ≡ e) → Ok m.exprs P x b
      ranges x b k q (yes p) =
          let z : get_or (set st.expression_ranges e (ranges_by (get_or st.expression_bits e none) row lsb ns)) x [] ≡ ranges_by (get_or st.expression_bits e none) row lsb ns
          = ap (λ (j : ℕ). get_or (set st.expression_ranges e (ranges_by (get_or st.expression_bits e none) row lsb ns)) j []) p ∙ get_or-set_same st.expression_ranges e _ [] (omega arith) in
          subst (λ (y : ℕ). Ok m.exprs P y b) (sym p) (old b k (get_or st.expression_bits e none) refl (sym (ap (λ (r : List (Option ℕ)). get_or r b none) z) ∙ q))
      ranges x b k q (no p) = f.ranges x b k (sym (ap (λ (r : List (Option ℕ)). get_or r b none) (get_or-set_other st.expression_ranges e x _ [] p)) ∙ q)

-- ---- nets are added ----

-- what has a net keeps one, and what is lowered whole stays so
pub record Further (st st' : State) : Type 0 where
  pub bits : (p i : ℕ) → Has (cell none st.signal_bits p i) → Has (cell none st'.signal_bits p i)
  pub wholes : (e : ℕ) → Has (whole st e) → Has (whole st' e)

pub further_grew : {st st' : State} → Grew st st' → Further st st'
further_grew g = record {
  bits = λ p i h. record { value = h.value; is = g.more.more p i h.value h.is };
  wholes = λ e h. record { value = h.value; is = g.wholes e h.value h.is };
}

further_bit : (st : State) (s b n : ℕ) → Has (cell none (put st.signal_bits s b (some n)) s b) → Further st (set_signal_bit st s b n)
unfolding set_signal_bit whole
further_bit st s b n h = record {
  bits = λ p i k. ⊎_elim (λ (e : (p ≡ s) × (i ≡ b)). record { value = h.value; is = ap₂ (λ (u v : ℕ). cell none (put st.signal_bits s b (some n)) u v) e.0 e.1 ∙ h.is })
      (λ e. record { value = k.value; is = put_other none st.signal_bits s b (some n) p i e ∙ k.is }) (same_cell p i s b);
  wholes = λ e k. k;
}

further_whole : (st : State) (e : ℕ) (ns : List ℕ) → e < length st.expression_bits → Further st (set_whole st e ns)
unfolding set_whole whole
further_whole st e ns h = record { bits = λ p i k. k; wholes = λ x k. go x k (ℕ_discrete x e) }
  where
    go : (x : ℕ) → Has (get_or st.expression_bits x none) → Dec (x ≡ e) → Has (get_or (set st.expression_bits e (some ns)) x none)
    go x k (yes q) = record { value = ns; is = ap (λ (j : ℕ). get_or (set st.expression_bits e (some ns)) j none) q ∙ get_or-set_same st.expression_bits e (some ns) none h }
    go x k (no q) = record { value = k.value; is = get_or-set_other st.expression_bits e x (some ns) none q ∙ k.is }

-- ---- the walk ----

module _ (G : Gates) (m : Module) (good : Good m) (P : State → Place → Type 0)
    (stays : (st st' : State) → Further st st' → (x : Place) → P st x → P st' x)
    (closes : (st : State) (s b : ℕ) (d : ℕ × ℕ) → driver_of m s b ≡ some d → Has (cell none st.signal_bits s b) → Has (whole st d.0)
    → Every m.exprs (P st) d.0 → P st (s, b)) where
  -- what has a net reads only bits with P
  abbrev pub Right : State → Type 0
  Right st = Fine m (P st) st

  -- after a need: refused, or all is right, and all that the need reads has P
  abbrev pub Runs : Need → Out State → Type 0
  Runs n o = Meets Any (λ st'. Right st' × NeedOk m.exprs (P st') n) o

  abbrev pub StepsRun : List Step → Out State → Type 0
  StepsRun ss o = Meets Any (λ st'. Right st' × AllOk m.exprs (P st') ss) o

  abbrev pub Spec : (Need → State → Out State) → Type 0
  Spec rec = (n : Need) (st : State) → Inv m st → Asked m n → Right st → Runs n (rec n st)

  after_step : (n : Need) (ss : List Step) (st : State) (o : Out State) (k : State → Out State) → Walks m st (λ st'. After st' n) o → Runs n o
      → ((st₁ : State) → Inv m st₁ → Right st₁ → Walks m st₁ (λ st'. AllAfter false st' ss) (k st₁) × StepsRun ss (k st₁))
      → Meets Any (λ st'. Right st' × (NeedOk m.exprs (P st') n × AllOk m.exprs (P st') ss)) (and_then o k)
  after_step n ss st (refused c x y) k w r h = tt
  after_step n ss st (done st₁) k w r h = let q = h st₁ w.walks.inv r.0 in rest (k st₁) q.0 q.1
    where
      rest : (o : Out State) → Walks m st₁ (λ st'. AllAfter false st' ss) o → StepsRun ss o
          → Meets Any (λ st'. Right st' × (NeedOk m.exprs (P st') n × AllOk m.exprs (P st') ss)) o
      rest (refused c x y) v q = tt
      rest (done st₂) v q = (q.0, (need_map m.exprs (stays st₁ st₂ (further_grew v.walks.grew)) n r.1, q.1))

  steps_run : (rec : Need → State → Out State) → Lowers G m good false rec → Spec rec → (ss : List Step) (st : State) → Inv m st → AllAsked m ss → Right st → StepsRun ss (lower_steps rec false ss st)
  unfolding lower_steps
  steps_run rec spec run [] st i a f = (f, tt)
  steps_run rec spec run (Always n ∷ ss) st i a f =
      after_step n ss st (rec n st) _ (spec n st i a.0) (run n st i a.0 f)
      (λ st₁ i₁ f₁. (steps_walk G m good false rec spec ss st₁ i₁ a.1, steps_run rec spec run ss st₁ i₁ a.1 f₁))
  steps_run rec spec run (Unless c v n ∷ ss) st i a f =
      after_step n ss st (rec n st) _ (spec n st i a.0) (run n st i a.0 f)
      (λ st₁ i₁ f₁. (steps_walk G m good false rec spec ss st₁ i₁ a.1, steps_run rec spec run ss st₁ i₁ a.1 f₁))

  held_ok : (st : State) (e b : ℕ) → b < width_at m.exprs e → Right st → Held st e b → Ok m.exprs (P st) e b
  held_ok st e b u f h = go (whole st e) refl h
    where
      go : (o : Option (List ℕ)) → whole st e ≡ o → HeldBy o (cell none st.expression_ranges e b) → Ok m.exprs (P st) e b
      go (some ns) q h = f.wholes e ns q b u
      go none q h = f.ranges e b h.value h.is

  -- ---- P after a write ----

  netlist_stays : (st : State) (l : Netlist) (x : Place) → P st x → P (with_netlist st l) x
  unfolding whole
  netlist_stays st l = stays st (with_netlist st l) (record { bits = λ p i h. h; wholes = λ e h. h })

  mark_stays : (st : State) (s b : ℕ) (x : Place) → P st x → P (mark st s b) x
  unfolding mark whole
  mark_stays st s b = stays st (mark st s b) (record { bits = λ p i h. h; wholes = λ e h. h })

  range_stays : (st : State) (l : Netlist) (e lsb : ℕ) (ns : List ℕ) (x : Place) → P st x → P (set_range (with_netlist st l) e lsb ns) x
  unfolding set_range whole
  range_stays st l e lsb ns = stays st (set_range (with_netlist st l) e lsb ns) (record { bits = λ p i h. h; wholes = λ e h. h })

  bit_closes : (st : State) (n s b : ℕ) (d : ℕ × ℕ) → driver_of m s b ≡ some d → Has (cell none (put st.signal_bits s b (some n)) s b)
      → Further st (set_signal_bit st s b n) → Has (whole st d.0) → Every m.exprs (P (set_signal_bit st s b n)) d.0 → P (set_signal_bit st s b n) (s, b)
  unfolding set_signal_bit
  bit_closes st n s b d q h g w v = closes (set_signal_bit st s b n) s b d q h (g.wholes d.0 w) v

  module _ (rec : Need → State → Out State) (spec : Lowers G m good false rec) (run : Spec rec) (st : State) (i : Inv m st) (f : Right st) where
    -- ---- a signal's bit ----

    drive_run : (s b : ℕ) (d : ℕ × ℕ) → driver_of m s b ≡ some d → (o : Out State) → Walks m (mark st s b) (λ st'. After st' (Whole d.0)) o → Runs (Whole d.0) o
        → Runs (Bit s b) (and_then o (λ st₁. done (set_signal_bit st₁ s b (driven_net false st₁ d.0 d.1))))
    drive_run s b d q (refused c x y) w r = tt
    drive_run s b d q (done st₁) w r =
        let a = assigned m s b good d q in
        let j = w.walks.inv in
        let n = driven_net false st₁ d.0 d.1 in
        let h : Has (cell none (put st₁.signal_bits s b (some n)) s b)
        = record { value = n; is = put_same none st₁.signal_bits s b (some n) (omega (arith, j.bits.rows, a.here)) (omega (arith, j.bits.cells s a.here, a.inside)) } in
        let g = further_bit st₁ s b n h in
        let to = stays st₁ (set_signal_bit st₁ s b n) g in
        let p = bit_closes st₁ n s b d q h g w.walks.post (need_map m.exprs to (Whole d.0) r.1) in
        (fine_bit m (P (set_signal_bit st₁ s b n)) st₁ s b n (fine_map m to r.0) p, p)

    bit_run : (s b : ℕ) → Runs (Bit s b) (resolve_signal_bit rec m false s b st)
    unfolding resolve_signal_bit signal_bit drive
    bit_run s b = go (cell none st.signal_bits s b) refl (driver_of m s b) refl (cell false st.resolving s b) refl
      where
        go : (o : Option ℕ) → cell none st.signal_bits s b ≡ o → (q : Option (ℕ × ℕ)) → driver_of m s b ≡ q → (t : Bool) → cell false st.resolving s b ≡ t
            → Runs (Bit s b) (elim o [
              | some n ↦ done st
              | none ↦ elim q [
                | none ↦ refused 6 s b
                | some d ↦ elim t [ true ↦ refused 7 s b | false ↦ drive rec false s b d.0 d.1 st ]
              ]
            ])
        go (some n) e q x t y = (f, f.bits s b n e)
        go none e none x t y = tt
        go none e (some d) x true y = tt
        go none e (some d) x false y =
            let v = (assigned m s b good d x).value in
            drive_run s b d x (rec (Whole d.0) (mark st s b)) (spec (Whole d.0) (mark st s b) (inv_mark m st s b i) v)
            (run (Whole d.0) (mark st s b) (inv_mark m st s b i) v (fine_map m (mark_stays st s b) (fine_mark m (P st) st s b f)))

    -- ---- an expression ----

    keep_whole_run : (e : ℕ) → e < length m.exprs → (st₁ : State) → Inv m st₁ → Right st₁ → Every m.exprs (P st₁) e → (r : Made (List ℕ)) → Runs (Whole e) (keep_whole st₁ e r)
    unfolding keep_whole
    keep_whole_run e h st₁ j g v (refused c x y) = tt
    keep_whole_run e h st₁ j g v (done r) =
        let st₂ = with_netlist st₁ r.1 in
        let to : (x : Place) → P st₂ x → P (set_whole st₂ e r.0) x = stays st₂ (set_whole st₂ e r.0) (further_whole st₂ e r.0 (omega (arith, j.entries))) in
        let k : Every m.exprs (P (set_whole st₂ e r.0)) e = need_map m.exprs to (Whole e) (need_map m.exprs (netlist_stays st₁ r.1) (Whole e) v) in
        (fine_whole m (P (set_whole st₂ e r.0)) st₂ e r.0 j.rows h (fine_map m to (fine_map m (netlist_stays st₁ r.1) (fine_netlist m (P st₁) st₁ r.1 g))) k, k)

    whole_after : (e : ℕ) → e < length m.exprs → (o : Out State) → Walks m st (λ st'. AllAfter false st' (whole_steps m.exprs e)) o → StepsRun (whole_steps m.exprs e) o
        → Runs (Whole e) (and_then o (λ st₁. keep_whole st₁ e (build_whole m.exprs false st₁ e)))
    whole_after e h (refused c x y) w r = tt
    whole_after e h (done st₁) w r =
        keep_whole_run e h st₁ w.walks.inv r.0 (whole_covers m.exprs (P st₁) good.exprs e h r.1) (build_whole m.exprs false st₁ e)

    expression_run : (e : ℕ) → e < length m.exprs → Runs (Whole e) (lower_expression rec m false e st)
    unfolding lower_expression
    expression_run e h = go (whole st e) refl
      where
        go : (o : Option (List ℕ)) → whole st e ≡ o → Runs (Whole e) (elim o [
          | some ns ↦ done st
          | none ↦ and_then (lower_steps rec false (whole_steps m.exprs e) st) (λ st₁. keep_whole st₁ e (build_whole m.exprs false st₁ e))
        ])
        go (some ns) q = (f, f.wholes e ns q)
        go none q =
            let a = whole_asked m good.exprs e h in
            whole_after e h (lower_steps rec false (whole_steps m.exprs e) st) (steps_walk G m good false rec spec (whole_steps m.exprs e) st i a)
            (steps_run rec spec run (whole_steps m.exprs e) st i a f)

    -- ---- a range ----

    keep_range_run : (e lsb w : ℕ) → e < length m.exprs → lsb + w ≤ width_at m.exprs e → (st₁ : State) → Inv m st₁ → Right st₁ → NeedOk m.exprs (P st₁) (Range e lsb w) → (r : Made (List ℕ))
        → Makes st₁.netlist (λ ns l. NetsGive l st₁.signal_bits ns (λ v. slice_w lsb w (word m.exprs v e))) r → Runs (Range e lsb w) (keep_range st₁ e lsb r)
    unfolding keep_range whole
    keep_range_run e lsb w h fits st₁ j g v (refused c x y) q = tt
    keep_range_run e lsb w h fits st₁ j g v (done r) q =
        let k = q.makes in
        let n : length r.0 ≡ w = holds_length k.later.sound k.post w
        (λ u. slice_wide lsb w (word m.exprs u e) (omega (arith, word_width m.exprs good.exprs u e h))) in
        let st₂ = with_netlist st₁ r.1 in
        let st₃ = set_range st₂ e lsb r.0 in
        let to : (x : Place) → P st₁ x → P st₃ x = range_stays st₁ r.1 e lsb r.0 in
        let o : NeedOk m.exprs (P st₃) (Range e lsb w) = need_map m.exprs to (Range e lsb w) v in
        (fine_range m (P st₃) st₂ e lsb r.0 j.rows (λ z. j.cells e h z) h (omega arith) (fine_map m to (fine_netlist m (P st₁) st₁ r.1 g)) (rw n o), o)

    range_after : (e lsb w : ℕ) → e < length m.exprs → lsb + w ≤ width_at m.exprs e → (o : Out State) → Walks m st (λ st'. AllAfter false st' (range_steps_of m.exprs e lsb w)) o
        → StepsRun (range_steps_of m.exprs e lsb w) o → Runs (Range e lsb w) (and_then o (λ st₁. keep_range st₁ e lsb (build_range m.exprs false st₁ e lsb w)))
    range_after e lsb w h fits (refused c x y) q r = tt
    range_after e lsb w h fits (done st₁) q r =
        keep_range_run e lsb w h fits st₁ q.walks.inv r.0 (range_covers m.exprs (P st₁) good.exprs e h lsb w fits r.1) (build_range m.exprs false st₁ e lsb w)
        (range_made G m good.exprs false st₁ q.walks.inv e lsb w h fits q.walks.post)

    range_run : (e lsb w : ℕ) → e < length m.exprs → lsb + w ≤ width_at m.exprs e → Runs (Range e lsb w) (lower_expression_range rec m false e lsb w st)
    unfolding lower_expression_range
    range_run e lsb w h fits = go (range_known st e lsb w) refl
      where
        go : (t : Bool) → range_known st e lsb w ≡ t → Runs (Range e lsb w) (elim t [
          | true ↦ done st
          | false ↦ and_then (lower_steps rec false (range_steps_of m.exprs e lsb w) st) (λ st₁. keep_range st₁ e lsb (build_range m.exprs false st₁ e lsb w))
        ])
        go true q = (f, λ b x y. held_ok st e b (omega arith) f (known_after m st i good.exprs e lsb w h fits q b x y))
        go false q =
            let a = range_asked m good.exprs e h lsb w fits in
            range_after e lsb w h fits (lower_steps rec false (range_steps_of m.exprs e lsb w) st) (steps_walk G m good false rec spec (range_steps_of m.exprs e lsb w) st i a)
            (steps_run rec spec run (range_steps_of m.exprs e lsb w) st i a f)

  step_run : (rec : Need → State → Out State) → Lowers G m good false rec → Spec rec → Spec (lower_by rec m false)
  step_run rec spec run (Bit s b) st i a f = bit_run rec spec run st i f s b
  step_run rec spec run (Whole e) st i a f = expression_run rec spec run st i f e a
  step_run rec spec run (Range e lsb w) st i a f = range_run rec spec run st i f e lsb w a.0 a.1

  -- whatever is lowered, what it reads has P
  pub need_run : (n : ℕ) → Spec (lower_need n m false)
  unfolding lower_need
  need_run zero x st i a f = tt
  need_run (suc n) x st i a f = step_run (λ n' st'. lower_need n m false n' st') (need_walk G m good false n) (need_run n) x st i a f

  pub all_run : (ss : List Step) (st : State) → Inv m st → AllAsked m ss → Right st → StepsRun ss (lower_all m false ss st)
  unfolding lower_all
  all_run ss st i a f = steps_run (λ n st'. lower_need (plenty m) m false n st') (need_walk G m good false (plenty m)) (need_run (plenty m)) ss st i a f
