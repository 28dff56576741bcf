-- What is proved of specs/Walked: What the walk comes to under limits. Assumes nothing.
use Rattle.std.specs.Prelude.{◌≡◌, Bool, cond, ℕ, zero, suc, ◌+◌, ◌-◌, length, take, drop, replicate}
use Rattle.std.proofs.Math.Path.{ap}
use Rattle.std.proofs.Common.{sym, ap₂, arith}
use Rattle.std.proofs.Math.Bool.{true, false}
use mathlib.Core.List.{List, [], ◌∷◌, ◌++◌}
use Rattle.std.proofs.Math.Option.{Option, none, some}
use Rattle.spec_rtl.specs.Word.{bits}
use Rattle.spec_rtl.specs.Rtl as R
use Rattle.spec_rtl.specs.Rtl.{Module, Expr, Kind, Binary}
use Rattle.spec_model.specs.Words.{absent, Netlist, used}
use Rattle.spec_model.specs.Builder as B
use Rattle.spec_model.specs.Builder.{Out, refused, done, and_then, Made, is_value, add_constant, add_not, each, both}
use Rattle.spec_model.specs.WordCells.{arithmetic}
use Rattle.spec_model.specs.Ranges.{expr_at, width_at, Gate, class_of, adder_width}
use Rattle.spec_model.specs.Lowering.{add_gate, State, with_netlist, is_add, is_bit_not, Need, Bit, Whole, Range, Step, Always, Unless, Operands, operands_of, gate_of, cell, set_signal_bit, mark, set_whole, set_range, signal_bit, signal_net, signal_nets, whole, whole_nets, whole_net, range_nets, range_known, whole_steps, concat_pieces, range_steps_of, truncated, selected, driven_by, driven_net, resized, lower_binary, build_operands, build_binary, build_mux, part_nets, build_kind, build_whole, piece_nets, range_gate, range_kind, build_range, unless, lower_steps, driver_of, drive, resolve_signal_bit, keep_whole, lower_expression, keep_range, lower_expression_range, lower_by, lower_need, plenty, lower_all}
use Rattle.spec_answers.specs.Limits.{limited}
use Rattle.law_limits.specs.Bounds.{made, limited_state, states}
use Rattle.law_limits.proofs.Bounds.{Bounds, bounds_done, bounds_refused, bounds_as, bounds_then}
use Rattle.law_limits.proofs.Built.{At, Builds, builds_done, builds_then, builds_constant, builds_constants, builds_nots, builds_gates, builds_muxes, builds_arithmetic, builds_unary, builds_binary}
use Rattle.law_limits.specs.Walked.{driven_alike, parts_alike, pieces_alike, range_alike, selected_alike}

-- a step of the walk that is taken at st; such a step at every state; what is made at every state
abbrev pub Goes : State → (ℕ → ℕ → Out State) → Type 0
Goes st F = Bounds states (length st.netlist.nodes) (used st.netlist.records) F

abbrev pub Walks : (State → Out State) → Type 0
Walks f = (st : State) → Goes st (λ N P. f (limited_state N P st))

abbrev pub Makes : {A : Type 0} → (State → Made A) → Type 0
Makes f = (st : State) → At st.netlist (λ N P. f (limited_state N P st))

pub walks_done : Walks (λ st. done st)
walks_done st = bounds_done states st

pub walks_then : (f g : State → Out State) → Walks f → Walks g → Walks (λ st. and_then (f st) g)
walks_then f g a b st = bounds_then states states (λ N P. f (limited_state N P st)) g (a st) b

-- ---- what is made of finished operands ----

-- nets that are read
makes_given : (f : State → List ℕ) → ((N P : ℕ) (st : State) → f (limited_state N P st) ≡ f st) → Makes (λ st. done (f st, st.netlist))
makes_given f e st = bounds_as (made (List ℕ)) (builds_done (f st) st.netlist) (λ N P. ap (λ ns. done (ns, limited N P st.netlist)) (sym (e N P st)))

-- what goes by something that is read
makes_of : {B : Type 0} (f : State → B) (k : B → State → Made (List ℕ)) → ((N P : ℕ) (st : State) → f (limited_state N P st) ≡ f st) → ((b : B) → Makes (k b))
    → Makes (λ st. k (f st) st)
makes_of f k e h st = bounds_as (made (List ℕ)) (h (f st) st) (λ N P. ap (λ b. k b (limited_state N P st)) (sym (e N P st)))

makes_resized : (o : Option ℕ) (w : ℕ) (f : State → Made (List ℕ)) → Makes f → Makes (λ st. resized o w (f st))
makes_resized none w f b st = b st
makes_resized (some n) w f b st =
    bounds_then (made (List ℕ)) (made (List ℕ)) (λ N P. f (limited_state N P st))
    (λ (ns, l). and_then (add_constant false l) (λ (z, l₁). done (ns ++ replicate (w - length ns) z, l₁))) (b st) (λ (ns, l).
    builds_then (add_constant false) (λ z l₁. done (ns ++ replicate (w - length ns) z, l₁)) (builds_constant false) (λ z. builds_done (ns ++ replicate (w - length ns) z)) l)

makes_operands : (op : Binary) (narrow : Option ℕ) (o : Operands) → Makes (λ st. build_operands op narrow st o)
unfolding whole_nets whole_net whole
makes_operands op narrow o st = go o.carry
  where
    xs : List ℕ
    xs = truncated narrow (whole_nets st o.lhs)

    ys : List ℕ
    ys = truncated narrow (whole_nets st o.rhs)

    go : (c : Option ℕ) → At {A = List ℕ} st.netlist
        (λ N P. elim c [ none ↦ lower_binary op xs ys (limited N P st.netlist) | some d ↦ arithmetic B.Add xs ys (some (whole_net st d 0)) (limited N P st.netlist) ])
    go none = builds_binary op xs ys st.netlist
    go (some d) = builds_arithmetic B.Add xs ys (some (whole_net st d 0)) st.netlist

makes_binary : (xs : List Expr) (e w : ℕ) (op : Binary) (a b : ℕ) → Makes (λ st. build_binary xs st e w op a b)
unfolding build_binary
makes_binary xs e w op a b =
    let narrow = cond (is_add (class_of op)) (adder_width xs e) none in
    makes_resized narrow w (λ st. build_operands op narrow st (operands_of xs op a b)) (makes_operands op narrow (operands_of xs op a b))

builds_side : (o : Option Bool) (c : ℕ) (ts es : List ℕ) → Builds (build_mux o c ts es)
builds_side (some v) c ts es l = builds_done (cond v ts es) l
builds_side none c ts es l = builds_muxes c ts es l

makes_kind : (xs : List Expr) (ob : Bool) (e w : ℕ) (k : Kind) → Makes (λ st. build_kind xs ob st e w k)
unfolding signal_nets signal_net signal_bit whole_nets whole_net whole
makes_kind xs ob e w (R.Signal s lsb) st = builds_done (signal_nets st s lsb w) st.netlist
makes_kind xs ob e w (R.Constant n) st = builds_constants (bits w n) st.netlist
makes_kind xs ob e w (R.Un op a) st = builds_unary op (whole_nets st a) st.netlist
makes_kind xs ob e w (R.Bin op a b) st = makes_binary xs e w op a b st
makes_kind xs ob e w (R.Mux c t f) st =
    makes_of (λ st₁. selected ob st₁ c) (λ o st₁. build_mux o (whole_net st₁ c 0) (whole_nets st₁ t) (whole_nets st₁ f) st₁.netlist) (λ N P st₁. selected_alike N P st₁ ob c)
    (λ o st₁. builds_side o (whole_net st₁ c 0) (whole_nets st₁ t) (whole_nets st₁ f) st₁.netlist) st
makes_kind xs ob e w (R.Concat ps) st = makes_given (λ st₁. part_nets st₁ ps) (λ N P st₁. parts_alike N P st₁ ps) st
makes_kind xs ob e w (R.Slice a lsb) st = makes_given (λ st₁. range_nets st₁ a lsb w) (λ N P st₁. range_alike N P st₁ a lsb w) st

makes_whole : (xs : List Expr) (ob : Bool) (e : ℕ) → Makes (λ st. build_whole xs ob st e)
unfolding build_whole
makes_whole xs ob e st = makes_kind xs ob e (width_at xs e) (expr_at xs e).kind st

-- what is made of ranges of two expressions
makes_ranges : (a b lsb w : ℕ) (f : List ℕ → List ℕ → Netlist → Made (List ℕ)) → ((xs ys : List ℕ) → Builds (f xs ys))
    → Makes (λ st. f (range_nets st a lsb w) (range_nets st b lsb w) st.netlist)
makes_ranges a b lsb w f h st =
    bounds_as (made (List ℕ)) (h (range_nets st a lsb w) (range_nets st b lsb w) st.netlist)
    (λ N P. ap₂ (λ xs ys. f xs ys (limited N P st.netlist)) (sym (range_alike N P st a lsb w)) (sym (range_alike N P st b lsb w)))

makes_gate : (g : Option Gate) (e a b lsb w : ℕ) → Makes (λ st. range_gate g st e a b lsb w)
makes_gate none e a b lsb w st = makes_given (λ st₁. range_nets st₁ e lsb w) (λ N P st₁. range_alike N P st₁ e lsb w) st
makes_gate (some g) e a b lsb w st = makes_ranges a b lsb w (both (add_gate g)) (builds_gates g) st

makes_not : (t : Bool) (e a lsb w : ℕ) → Makes (λ st. cond t (each add_not (range_nets st a lsb w) st.netlist) (done (range_nets st e lsb w, st.netlist)))
makes_not true e a lsb w st =
    makes_of (λ st₁. range_nets st₁ a lsb w) (λ ns st₁. each add_not ns st₁.netlist) (λ N P st₁. range_alike N P st₁ a lsb w) (λ ns st₁. builds_nots ns st₁.netlist) st
makes_not false e a lsb w st = makes_given (λ st₁. range_nets st₁ e lsb w) (λ N P st₁. range_alike N P st₁ e lsb w) st

makes_range_kind : (xs : List Expr) (ob : Bool) (e lsb w v : ℕ) (k : Kind) → Makes (λ st. range_kind xs ob st e lsb w v k)
unfolding signal_nets signal_net signal_bit whole_net whole_nets whole
makes_range_kind xs ob e lsb w v (R.Signal s l) st = builds_done (signal_nets st s (l + lsb) w) st.netlist
makes_range_kind xs ob e lsb w v (R.Constant n) st = builds_constants (take w (drop lsb (bits v n))) st.netlist
makes_range_kind xs ob e lsb w v (R.Un op a) st = makes_not (is_bit_not op) e a lsb w st
makes_range_kind xs ob e lsb w v (R.Bin op a b) st = makes_gate (gate_of (class_of op)) e a b lsb w st
makes_range_kind xs ob e lsb w v (R.Mux c t f) st =
    makes_of (λ st₁. selected ob st₁ c) (λ o st₁. build_mux o (whole_net st c 0) (range_nets st₁ t lsb w) (range_nets st₁ f lsb w) st₁.netlist) (λ N P st₁. selected_alike N P st₁ ob c)
    (λ o. makes_ranges t f lsb w (build_mux o (whole_net st c 0)) (builds_side o (whole_net st c 0))) st
makes_range_kind xs ob e lsb w v (R.Concat ps) st = makes_given (λ st₁. piece_nets st₁ (concat_pieces xs ps lsb w)) (λ N P st₁. pieces_alike N P st₁ (concat_pieces xs ps lsb w)) st
makes_range_kind xs ob e lsb w v (R.Slice a l) st = makes_given (λ st₁. range_nets st₁ a (l + lsb) w) (λ N P st₁. range_alike N P st₁ a (l + lsb) w) st

makes_range : (xs : List Expr) (ob : Bool) (e lsb w : ℕ) → Makes (λ st. build_range xs ob st e lsb w)
unfolding build_range
makes_range xs ob e lsb w st = makes_range_kind xs ob e lsb w (width_at xs e) (expr_at xs e).kind st

keeps_whole : (e : ℕ) (f : State → Made (List ℕ)) → Makes f → Walks (λ st. keep_whole st e (f st))
unfolding keep_whole set_whole
keeps_whole e f b st =
    bounds_then (made (List ℕ)) states (λ N P. f (limited_state N P st)) (λ (ns, l). done (set_whole (with_netlist st l) e ns)) (b st)
    (λ r. bounds_done states (set_whole (with_netlist st r.1) e r.0))

keeps_range : (e lsb : ℕ) (f : State → Made (List ℕ)) → Makes f → Walks (λ st. keep_range st e lsb (f st))
unfolding keep_range set_range whole
keeps_range e lsb f b st =
    bounds_then (made (List ℕ)) states (λ N P. f (limited_state N P st)) (λ (ns, l). done (set_range (with_netlist st l) e lsb ns)) (b st)
    (λ r. bounds_done states (set_range (with_netlist st r.1) e lsb r.0))

-- ---- the recursion ----

module _ (m : Module) (ob : Bool) (rec : Need → State → Out State) (spec : (n : Need) → Walks (rec n)) where
  unless_walks : (t : Bool) (n : Need) → Walks (unless t rec n)
  unless_walks true n st = walks_done st
  unless_walks false n st = spec n st

  -- a step that is left out by a net's value
  unless_known : (c : ℕ) (v : Bool) (n : Need) → Walks (λ st. unless (is_value v (selected ob st c)) rec n st)
  unless_known c v n st =
      bounds_as states (unless_walks (is_value v (selected ob st c)) n st)
      (λ N P. ap (λ o. unless (is_value v o) rec n (limited_state N P st)) (sym (selected_alike N P st ob c)))

  pub steps_walk : (ss : List Step) → Walks (lower_steps rec ob ss)
  unfolding lower_steps
  steps_walk [] st = walks_done st
  steps_walk (Always n ∷ ss) st = walks_then (rec n) (lower_steps rec ob ss) (spec n) (steps_walk ss) st
  steps_walk (Unless c v n ∷ ss) st = walks_then (λ st₁. unless (is_value v (selected ob st₁ c)) rec n st₁) (lower_steps rec ob ss) (unless_known c v n) (steps_walk ss) st

  driven_walks : (s b e o : ℕ) → Walks (λ st. done (set_signal_bit st s b (driven_net ob st e o)))
  unfolding set_signal_bit
  driven_walks s b e o st =
      bounds_as states (bounds_done states (set_signal_bit st s b (driven_net ob st e o)))
      (λ N P. ap (λ n. done (set_signal_bit (limited_state N P st) s b n)) (sym (driven_alike N P st ob e o)))

  drive_walks : (s b e o : ℕ) → Walks (drive rec ob s b e o)
  unfolding drive mark
  drive_walks s b e o st =
      bounds_then states states (λ N P. rec (driven_by ob e o) (limited_state N P (mark st s b))) (λ st₁. done (set_signal_bit st₁ s b (driven_net ob st₁ e o)))
      (spec (driven_by ob e o) (mark st s b)) (driven_walks s b e o)

  bit_walks : (s b : ℕ) → Walks (resolve_signal_bit rec m ob s b)
  unfolding resolve_signal_bit signal_bit
  bit_walks s b st = go (signal_bit st s b) (driver_of m s b) (cell false st.resolving s b)
    where
      go : (o : Option ℕ) (q : Option (ℕ × ℕ)) (t : Bool) → Goes st (λ N P. elim o [
        | some n ↦ done (limited_state N P st)
        | none ↦ elim q [
          | none ↦ refused 6 s b
          | some d ↦ elim t [ true ↦ refused 7 s b | false ↦ drive rec ob s b d.0 d.1 (limited_state N P st) ]
        ]
      ])
      go (some n) q t = walks_done st
      go none none t = bounds_refused states _ _ 6 s b (λ e. absurd (omega arith)) (λ e. absurd (omega arith))
      go none (some d) true = bounds_refused states _ _ 7 s b (λ e. absurd (omega arith)) (λ e. absurd (omega arith))
      go none (some d) false = drive_walks s b d.0 d.1 st

  expression_walks : (e : ℕ) → Walks (lower_expression rec m ob e)
  unfolding lower_expression whole
  expression_walks e st = go (whole st e)
    where
      go : (o : Option (List ℕ)) → Goes st (λ N P. elim o [
        | some ns ↦ done (limited_state N P st)
        | none ↦ and_then (lower_steps rec ob (whole_steps m.exprs e) (limited_state N P st)) (λ st₁. keep_whole st₁ e (build_whole m.exprs ob st₁ e))
      ])
      go (some ns) = walks_done st
      go none =
          walks_then (lower_steps rec ob (whole_steps m.exprs e)) (λ st₁. keep_whole st₁ e (build_whole m.exprs ob st₁ e)) (steps_walk (whole_steps m.exprs e))
          (keeps_whole e (λ st₁. build_whole m.exprs ob st₁ e) (makes_whole m.exprs ob e)) st

  range_walks : (e lsb w : ℕ) → Walks (lower_expression_range rec m ob e lsb w)
  unfolding lower_expression_range range_known whole
  range_walks e lsb w st = go (range_known st e lsb w)
    where
      go : (t : Bool) → Goes st (λ N P. elim t [
        | true ↦ done (limited_state N P st)
        | false ↦ and_then (lower_steps rec ob (range_steps_of m.exprs e lsb w) (limited_state N P st)) (λ st₁. keep_range st₁ e lsb (build_range m.exprs ob st₁ e lsb w))
      ])
      go true = walks_done st
      go false =
          walks_then (lower_steps rec ob (range_steps_of m.exprs e lsb w)) (λ st₁. keep_range st₁ e lsb (build_range m.exprs ob st₁ e lsb w)) (steps_walk (range_steps_of m.exprs e lsb w))
          (keeps_range e lsb (λ st₁. build_range m.exprs ob st₁ e lsb w) (makes_range m.exprs ob e lsb w)) st

  by_walks : (n : Need) → Walks (lower_by rec m ob n)
  by_walks (Bit s b) st = bit_walks s b st
  by_walks (Whole e) st = expression_walks e st
  by_walks (Range e lsb w) st = range_walks e lsb w st

pub need_walks : (f : ℕ) (m : Module) (ob : Bool) (n : Need) → Walks (lower_need f m ob n)
unfolding lower_need
need_walks zero m ob n st = bounds_refused states _ _ absent 0 0 (λ e. absurd (omega arith)) (λ e. absurd (omega arith))
need_walks (suc f) m ob n st = by_walks m ob (λ n' st'. lower_need f m ob n' st') (need_walks f m ob) n st

pub all_walks : (m : Module) (ob : Bool) (ss : List Step) → Walks (lower_all m ob ss)
unfolding lower_all
all_walks m ob ss st = steps_walk m ob (λ n st'. lower_need (plenty m) m ob n st') (need_walks (plenty m) m ob) ss st
