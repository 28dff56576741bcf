-- Between two records of a phase: the sources have nets, what has a net is safe, no bit is on the way. Lowering what a record needs keeps it,
-- or is refused 6 or 7 as the rules say, or for want of room. Assumes nothing.
use Rattle.std.proofs.Math.Path.{◌≡◌, refl, ap, subst}
use Rattle.std.proofs.Common.{sym, ◌∙◌, ⊎_elim, arith}
use Rattle.std.specs.Prelude.{◌⊎◌, Bool, true, ℕ}
use Rattle.std.proofs.Math.Bool.{false}
use mathlib.Core.List.{List, [], ◌∷◌, ◌++◌}
use Rattle.std.proofs.Math.Option.{none, some}
use Rattle.spec_rtl.specs.Rtl as R
use Rattle.spec_rtl.specs.Rtl.{Module, Driver, driver}
use Rattle.spec_model.specs.Words.{Netlist, absent}
use Rattle.spec_model.specs.Builder.{Out, refused, done, and_then, is_value}
use Rattle.spec_model.specs.Ranges.{width_at}
use Rattle.spec_model.specs.Lowering.{State, Need, Bit, Whole, Range, Step, Always, Unless, cell, whole, with_netlist, driver_of, lower_steps, lower_need, lower_all, plenty}
use Rattle.spec_needs.specs.Reads.{Place, whole_reads, bit_reads}
use Rattle.spec_needs.specs.Needs.{In, bit_needs, driven_needs, starts, start}
use Rattle.spec_answers.specs.Refusals.{Undriven, Looping}
use Rattle.law_nets.specs.Run.{Meets, Limit}
use Rattle.law_walk.specs.Tables.{Has}
use Rattle.law_walk.specs.Good.{Good}
use Rattle.law_walk.specs.Kept.{Inv, Any, Walks, WalkedTo}
use Rattle.law_walk.specs.Reads.{Asked, After, need_of, AllAsked, AllAfter}
use Rattle.law_walk.proofs.Walk.{assigned, driver_by, need_walk, all_walk}
use Rattle.law_needs.specs.Safe.{Safe, safe, safe_map, reached}
use Rattle.law_needs.specs.Covers.{Every, all_whole, NeedOk, AllOk, steps_map}
use Rattle.law_needs.specs.Complete as complete
use Rattle.law_needs.specs.Complete.{Further, further_grew, Fine, fine_map, fine_netlist}
use Rattle.law_needs.specs.Inside.{Inside, Within, is_source, Sourced, sourced_stays}
use Rattle.law_needs.specs.Told.{Some, AllSome}
use Rattle.law_needs.proofs.Told.{undriven as told-undriven, looping as told-looping, room as told-room, spent as told-spent}
use Rattle.law_needs.proofs.Told.{said, Open, Told, NoNew, need_tell}
use Rattle.law_phases.specs.Supply.{supply}

-- ---- a bit that is served ----

-- it has a net, it is driven, and an expression that drives it is lowered whole
pub record Served (m : Module) (st : State) (x : Place) : Type 0 where
  pub net : Has (cell none st.signal_bits x.0 x.1)
  pub driven : driver m x.0 x.1 ≡ R.Nothing → ⊥
  pub lowered : (e o : ℕ) → driver m x.0 x.1 ≡ R.FromExpr e o → Has (whole st e)

abbrev pub SafeIn : Module → State → Place → Type 0
SafeIn m st = Safe m (Served m st)

pub safe_stays : (m : Module) (st st' : State) → Further st st' → (x : Place) → SafeIn m st x → SafeIn m st' x
safe_stays m st st' g x s = safe_map m (λ y h. record { net = g.bits y.0 y.1 h.net; driven = h.driven; lowered = λ e o d. g.wholes e (h.lowered e o d) }) s

-- the tag of a driver
abbrev tag : Driver → ℕ
tag R.FromInput = 0
tag (R.FromRegister r) = 1
tag (R.FromData k t) = 2
tag (R.FromExpr e o) = 3
tag R.Nothing = 4

abbrev expr_of : Driver → ℕ
expr_of R.FromInput = 0
expr_of (R.FromRegister r) = 0
expr_of (R.FromData k t) = 0
expr_of (R.FromExpr e o) = e
expr_of R.Nothing = 0

module _ (m : Module) (good : Good m) where
  pub safe_closes : (st : State) (s b : ℕ) (d : ℕ × ℕ) → driver_of m s b ≡ some d → Has (cell none st.signal_bits s b) → Has (whole st d.0)
      → Every m.exprs (SafeIn m st) d.0 → SafeIn m st (s, b)
  unfolding bit_needs whole_reads
  safe_closes st s b d q n w v =
      let a = assigned m s b good d q in
      let by : driver m s b ≡ R.FromExpr d.0 d.1 = driver_by m s b a.undriven ∙ a.by in
      safe (record {
        net = n;
        driven = λ e. let z : ◌≡◌ {A = ℕ} 3 4 = ap tag (sym by ∙ e) in omega arith;
        lowered = λ e o f. subst (λ (k : ℕ). Has (whole st k)) (ap expr_of (sym by ∙ f)) w;
      }) (λ y r. all_whole (SafeIn m st) (width_at m.exprs d.0) (bit_reads m.exprs d.0) v y (subst (In y) (ap (driven_needs m) by) r))

  -- a source needs nothing
  pub safe_source : (st : State) (p b : ℕ) → Has (cell none st.signal_bits p b) → is_source (driver m p b) ≡ true → SafeIn m st (p, b)
  unfolding bit_needs
  safe_source st p b n e = go (driver m p b) refl e
    where
      with_tag : (d : Driver) → driver m p b ≡ d → (tag d ≡ 4 → ⊥) → (tag d ≡ 3 → ⊥) → ((y : Place) → In y (driven_needs m d) → ⊥) → SafeIn m st (p, b)
      with_tag d q f g h = safe (record {
        net = n;
        driven = λ z. f (ap tag (sym q ∙ z));
        lowered = λ x o z. absurd (g (ap tag (sym q ∙ z)));
      }) (λ y r. absurd (h y (subst (λ (c : Driver). In y (driven_needs m c)) q r)))

      go : (d : Driver) → driver m p b ≡ d → is_source d ≡ true → SafeIn m st (p, b)
      go R.FromInput q f = with_tag R.FromInput q (λ z. omega arith) (λ z. omega arith) (λ y h. h)
      go (R.FromRegister r) q f = with_tag (R.FromRegister r) q (λ z. omega arith) (λ z. omega arith) (λ y h. h)
      go (R.FromData k t) q f = with_tag (R.FromData k t) q (λ z. omega arith) (λ z. omega arith) (λ y h. h)
      go (R.FromExpr x o) q f = let z : ◌≡◌ {A = ℕ} 0 1 = cc in absurd (omega arith)
      go R.Nothing q f = let z : ◌≡◌ {A = ℕ} 0 1 = cc in absurd (omega arith)

-- ---- refusals of the walk ----

pub data Strays (m : Module) : ℕ → ℕ → ℕ → Type 0 where
  undriven : {p b : ℕ} → Undriven m p b → Strays m 6 p b
  looping : {p b : ℕ} → Looping m p b → Strays m 7 p b
  room : {c x y : ℕ} → Limit c x y → Strays m c x y
  spent : {x y : ℕ} → Strays m absent x y

-- ---- what stands ----

pub record Stands (m : Module) (st : State) : Type 0 where
  pub sourced : Sourced m st
  pub right : Fine m (SafeIn m st) st
  pub shut : (x : Place) → Open m st x → ⊥

-- the netlist alone has changed
pub stands_netlist : (m : Module) (st : State) (l : Netlist) → Stands m st → Stands m (with_netlist st l)
unfolding whole
stands_netlist m st l s = record {
  sourced = s.sourced;
  right = fine_map m (safe_stays m st (with_netlist st l) (record { bits = λ p i h. h; wholes = λ e h. h })) (fine_netlist m (SafeIn m st) st l s.right);
  shut = s.shut;
}

-- a bit has its net, an expression is lowered whole
abbrev pub Got : State → Need → Type 0
Got st (Bit s b) = Has (cell none st.signal_bits s b)
Got st (Whole e) = Has (whole st e)
Got st (Range e lsb w) = Unit {0}

abbrev pub AllGot : State → List Step → Type 0
AllGot st [] = Unit {0}
AllGot st (s ∷ ss) = Got st (need_of s) × AllGot st ss

pub got_split : (st : State) (xs ys : List Step) → AllGot st (xs ++ ys) → AllGot st xs × AllGot st ys
got_split st [] ys h = (tt, h)
got_split st (x ∷ xs) ys h = let r = got_split st xs ys h.1 in ((h.0, r.0), r.1)

got_stays : {st st' : State} → Further st st' → (n : Need) → Got st n → Got st' n
got_stays g (Bit s b) h = g.bits s b h
got_stays g (Whole e) h = g.wholes e h
got_stays g (Range e lsb w) h = tt

all_got_stays : {st st' : State} → Further st st' → (ss : List Step) → AllGot st ss → AllGot st' ss
all_got_stays g [] h = tt
all_got_stays g (s ∷ ss) h = (got_stays g (need_of s) h.0, all_got_stays g ss h.1)

got_after : (st : State) (n : Need) → After st n → Got st n
got_after st (Bit s b) h = h
got_after st (Whole e) h = h
got_after st (Range e lsb w) h = tt

-- flag false: no side is left out
all_got_after : (st : State) (ss : List Step) → AllAfter false st ss → AllGot st ss
all_got_after st [] h = tt
all_got_after st (Always n ∷ ss) h = (got_after st n h.0, all_got_after st ss h.1)
all_got_after st (Unless c v n ∷ ss) h = (⊎_elim (λ e. never v e) (got_after st n) h.0, all_got_after st ss h.1)
  where
    never : (v : Bool) → is_value v none ≡ true → Got st n
    never true e = let z : ◌≡◌ {A = ℕ} 0 1 = cc in absurd (omega arith)
    never false e = let z : ◌≡◌ {A = ℕ} 0 1 = cc in absurd (omega arith)

-- steps that are done: what they ask for is there, and all that it reads is safe
pub record AllServed (m : Module) (st : State) (ss : List Step) : Type 0 where
  pub got : AllGot st ss
  pub safes : AllOk m.exprs (SafeIn m st) ss

pub served_stays : {m : Module} {st st' : State} {ss : List Step} → Further st st' → AllServed m st ss → AllServed m st' ss
served_stays {m} {st} {st'} {ss} g h = record { got = all_got_stays g ss h.got; safes = steps_map m.exprs (safe_stays m st st' g) ss h.safes }

pub further_refl : {st : State} → Further st st
further_refl = record { bits = λ p i h. h; wholes = λ e h. h }

pub further_trans : {st st' st'' : State} → Further st st' → Further st' st'' → Further st st''
further_trans a b = record { bits = λ p i h. b.bits p i (a.bits p i h); wholes = λ e h. b.wholes e (a.wholes e h) }

pub further_netlist : (st : State) (l : Netlist) → Further st (with_netlist st l)
unfolding whole
further_netlist st l = record { bits = λ p i h. h; wholes = λ e h. h }

-- ---- lowering what a record needs ----

-- what is asked of steps: they are of the module, inside, and needs start at what they read
pub record Starting (m : Module) (ss : List Step) : Type 0 where
  pub asked : AllAsked m ss
  pub some : AllSome ss
  pub inside : AllOk m.exprs (Inside m) ss
  pub begins : AllOk m.exprs (λ y. In y (starts m)) ss

pub record LoweredTo (m : Module) (st : State) (ss : List Step) (st' : State) : Type 0 where
  pub walked : WalkedTo m st (λ st''. AllAfter false st'' ss) st'
  pub stands : Stands m st'
  pub further : Further st st'
  pub served : AllServed m st' ss

module _ (m : Module) (good : Good m) (within : Within m) where
  -- a told refusal, where no bit is on the way and needs start at what was asked for
  strays : (n : Need) (st : State) → ((x : Place) → Open m st x → ⊥) → NeedOk m.exprs (λ y. In y (starts m)) n → (c x y : ℕ) → Told m n st c x y → Strays m c x y
  strays n st shut b c x y (told-undriven w i d) =
      undriven (record { there = i; nothing = d; needed = reached m (start (said m (λ z. In z (starts m)) n b w.first w.begins)) w.reaches })
  strays n st shut b c x y (told-looping w i d r) = looping (record {
    there = i;
    e = d.expression;
    o = d.bit;
    driven = d.is;
    needed = reached m (start (said m (λ z. In z (starts m)) n b w.first w.begins)) w.reaches;
    itself = ⊎_elim (λ q. q) (λ o. absurd (shut _ o)) r;
  })
  strays n st shut b c x y (told-room l) = room l
  strays n st shut b c x y told-spent = spent

  abbrev Shut : State → Type 0
  Shut st = (x : Place) → Open m st x → ⊥

  -- one need, then the rest
  step_shut : (n : Need) (st : State) → Inv m st → Sourced m st → Shut st → Asked m n → Some n → NeedOk m.exprs (Inside m) n → NeedOk m.exprs (λ y. In y (starts m)) n
      → (k : State → Out State) → ((st₁ : State) → Inv m st₁ → Sourced m st₁ → Shut st₁ → Meets (Strays m) Shut (k st₁))
      → Meets (Strays m) Shut (and_then (lower_need (plenty m) m false n st) k)
  step_shut n st i z h a q f b k r =
      go (lower_need (plenty m) m false n st) (need_walk supply m good false (plenty m) n st i a) (need_tell supply m good within (plenty m) n st i a q z f)
    where
      go : (o : Out State) → Walks m st (λ st'. After st' n) o → Meets (Told m n st) (NoNew m st) o → Meets (Strays m) Shut (and_then o k)
      go (refused c x y) w t = strays n st h b c x y t
      go (done st₁) w t = r st₁ w.walks.inv (sourced_stays m (further_grew w.walks.grew) z) (λ x o. h x (t x o))

  steps_shut : (ss : List Step) (st : State) → Inv m st → Sourced m st → Shut st → AllAsked m ss → AllSome ss → AllOk m.exprs (Inside m) ss
      → AllOk m.exprs (λ y. In y (starts m)) ss → Meets (Strays m) Shut (lower_steps (λ n st'. lower_need (plenty m) m false n st') false ss st)
  unfolding lower_steps
  steps_shut [] st i z h a q f b = h
  steps_shut (Always n ∷ ss) st i z h a q f b =
      step_shut n st i z h a.0 q.0 f.0 b.0 _ (λ st₁ i₁ z₁ h₁. steps_shut ss st₁ i₁ z₁ h₁ a.1 q.1 f.1 b.1)
  steps_shut (Unless c v n ∷ ss) st i z h a q f b =
      step_shut n st i z h a.0 q.0 f.0 b.0 _ (λ st₁ i₁ z₁ h₁. steps_shut ss st₁ i₁ z₁ h₁ a.1 q.1 f.1 b.1)

  pub all_lowered : (ss : List Step) (st : State) → Inv m st → Stands m st → Starting m ss → Meets (Strays m) (LoweredTo m st ss) (lower_all m false ss st)
  unfolding lower_all
  all_lowered ss st i s g = join (lower_steps (λ n st'. lower_need (plenty m) m false n st') false ss st)
      (all_walk supply m good false ss st i g.asked)
      (complete.all_run supply m good (SafeIn m) (safe_stays m) (safe_closes m good) ss st i g.asked s.right)
      (steps_shut ss st i s.sourced s.shut g.asked g.some g.inside g.begins)
    where
      join : (o : Out State) → Walks m st (λ st'. AllAfter false st' ss) o → Meets Any (λ st'. Fine m (SafeIn m st') st' × AllOk m.exprs (SafeIn m st') ss) o
          → Meets (Strays m) (λ st'. (x : Place) → Open m st' x → ⊥) o → Meets (Strays m) (LoweredTo m st ss) o
      join (refused c x y) w r t = t
      join (done st') w r t = record {
        walked = w.walks;
        stands = record { sourced = sourced_stays m (further_grew w.walks.grew) s.sourced; right = r.0; shut = t };
        further = further_grew w.walks.grew;
        served = record { got = all_got_after st' ss w.walks.post; safes = r.1 };
      }
