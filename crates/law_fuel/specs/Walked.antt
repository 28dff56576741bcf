-- The walk does not run out of fuel. With u signal bits unmarked a need costs u (2 expressions + 1) and its rank; each of its steps has a lower rank, or one bit
-- fewer is unmarked. Assumes nothing.
use Rattle.std.specs.Prelude.{◌≡◌}
use Prim.Native.Nat.{ℕ, suc, ◌+◌, ◌*◌, ◌≤◌, ◌<◌}
use Rattle.std.proofs.Common.{mul-le-mul_right, suc-mul}
use native.Mathlib.Omega.{arith}
use Rattle.spec_rtl.specs.Rtl.{Module}
use Rattle.spec_model.specs.Words.{absent}
use Rattle.spec_model.specs.Builder.{Out, refused, done, and_then}
use Rattle.spec_model.specs.Lowering.{State, Need, plenty, sum_widths}
use Rattle.law_nets.specs.Run.{Meets, Limit, nets, list}
use Rattle.law_needs.specs.Room.{Roomy}
use Rattle.law_fuel.specs.Ranks.{rank, most}
use Rattle.law_fuel.specs.Marks.{Under}

-- ---- outcomes ----

-- a refusal for another reason than fuel
abbrev pub Fed : ℕ → ℕ → ℕ → Type 0
Fed c x y = c ≡ absent → ⊥

-- such a refusal, or a state with at most u bits unmarked
pub record Goes (m : Module) (u : ℕ) (o : Out State) : Type 0 where
  pub goes : Meets Fed (Under m u) o

pub goes_done : {m : Module} {u : ℕ} {st : State} → Under m u st → Goes m u (done st)
goes_done i = record { goes = i }

pub goes_bind : {m : Module} {u : ℕ} (o : Out State) (k : State → Out State) → Goes m u o → ((st : State) → Under m u st → Goes m u (k st)) → Goes m u (and_then o k)
goes_bind (refused c x y) k g f = record { goes = g.goes }
goes_bind (done st) k g f = f st g.goes

limit_fed : {c x y : ℕ} → Limit c x y → Fed c x y
limit_fed nets = λ e. omega arith
limit_fed list = λ e. omega arith

-- after a call of the builder
pub goes_room : {A : Type 0} {m : Module} {u : ℕ} (o : Out A) (k : A → Out State) → Roomy o → ((a : A) → Goes m u (k a)) → Goes m u (and_then o k)
goes_room (refused c x y) k r f = record { goes = limit_fed r.room }
goes_room (done a) k r f = f a

-- ---- costs ----

-- of a need, with u bits unmarked
abbrev pub cost : Module → ℕ → Need → ℕ
cost m u n = u * most m + rank n

-- with one bit fewer there is room for every rank
pub rank_room : (u v c : ℕ) → v < u → v * c + c ≤ u * c
rank_room u v c h =
    let a : suc v * c ≤ u * c = mul-le-mul_right c h in
    let q : suc v * c ≡ v * c + c = suc-mul v c in
    omega arith

pub all_enough : (m : Module) (u : ℕ) → u ≤ sum_widths m.signals → u * most m + most m ≤ plenty m
unfolding plenty
all_enough m u h = rank_room (sum_widths m.signals + 1) u (most m) (omega arith)
