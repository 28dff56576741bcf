-- What the answers of the lowering call say, for all bytes, limits and buffers: a call that keeps its promise answers as `Answers` tells.
-- Assumes nothing.
use Rattle.std.specs.Prelude.{ℕ, ◌≤◌, false, length, get_or}
use mathlib.Core.List.{List, [], ◌∷◌, ◌++◌, map}
use Rattle.std.proofs.Math.Option.{Option, none, some}
use Rattle.std.proofs.Math.Path.{◌≡◌, refl, ap, subst}
use Rattle.std.proofs.Common.{sym, ◌∙◌}
use native.Mathlib.Omega.{arith}
use Rattle.std.proofs.Math.ListN.{get_elem?}
use Rattle.spec_rtl.specs.Rtl as R
use Rattle.spec_rtl.specs.Rtl.{Module, Valuation, word}
use Rattle.spec_tests.specs.Rules.{Answer, Fine, Refused, and_then}
use Rattle.spec_rules.specs.Image.{decode}
use Rattle.spec_rules.specs.Checks.{checked}
use Rattle.spec_rules.specs.NetlistImage.{netlist}
use Rattle.spec_rules.specs.Step.{Setting, Contents, settled, net}
use Rattle.spec_rules.specs.Promise as Promise
use Rattle.spec_model.specs.Words.{absent, Netlist}
use Rattle.spec_model.specs.Builder as model
use Rattle.spec_model.specs.Builder.{Out, refused, done}
use Rattle.spec_model.specs.Lowering.{State, whole, cell, signal_bit, expression_net, memory_steps, word_steps, bit_step, enable_steps, second_steps, register_steps, reset_steps, control_steps, wholes, lower_state, lower_with, lower}
use Rattle.spec_call.specs.Call as Call
use Rattle.spec_call.specs.Call.{outcome, numbers_of}
use Rattle.spec_answers.specs.Limits.{limited}
use Rattle.spec_answers.specs.Nets.{Is, ResetWhole, PortWhole, SecondWhole, Nets}
use Rattle.spec_answers.specs.Answers.{Reason, undriven, looping, not_constant, more_nets, more_words, Faultless, Answers}
use Rattle.check_image.specs.Accepted.{accepted}
use Rattle.law_nets.specs.Run.{Meets, nets, list}
use Rattle.law_nets.proofs.Run.{later_refl}
use Rattle.law_nets.specs.Meaning.{is_output_port, not_output, meaning_of, net_value}
use Rattle.law_nets.proofs.Image.{words_netlist}
use Rattle.law_walk.specs.Tables.{Has}
use Rattle.law_walk.specs.Good.{Good}
use Rattle.law_walk.specs.Kept.{Any, Inv, Agrees}
use Rattle.law_needs.specs.Inside as inside
use Rattle.law_phases.proofs.Outputs as outputs
use Rattle.law_fuel.proofs.Spent.{never_spent}
use Rattle.law_limits.specs.Bounds.{states, limited_state}
use Rattle.law_limits.proofs.Larger as grown
use Rattle.law_limits.specs.Larger.{not_done, refused_is}
use Rattle.law_limits.proofs.Phases.{limits}
use Rattle.law_limits.proofs.Limits.{accepted_only, refused_nets, refused_words}
use Rattle.law_limits.proofs.Limits.{freely_lower}
use Rattle.law_refused.specs.Stands as stands
use Rattle.law_refused.specs.Stands.{AllGot, got_split}
use Rattle.law_refused.proofs.Phases as phases
use Rattle.law_refused.proofs.Phases.{Faults}
use Rattle.law_refused.proofs.Lowered.{accepts, needed_served, none_undriven, none_looping}
use Rattle.law_refused.proofs.Lowered.{Accepts, told}
use Rattle.law_refused.proofs.Constants.{none_other}
use Rattle.law_call.proofs.Calls as call
use Rattle.law_call.specs.Calls.{ends}
use Rattle.law_answers.specs.Within.{within}
use Rattle.law_answers.specs.Numbers.{Numbered, checked_within}

-- ---- outcomes ----

-- what the lowering of the state comes to
lower_refused : (m : Module) (N P k x y : ℕ) → lower m N P ≡ refused k x y → lower_state false m N P ≡ refused k x y
unfolding lower lower_with
lower_refused m N P k x y e = go (lower_state false m N P) refl e
  where
    go : (o : Out State) → lower_state false m N P ≡ o → model.and_then o (λ st. done st.netlist) ≡ refused k x y → lower_state false m N P ≡ refused k x y
    go (refused c u v) q f = let r = refused_is f in q ∙ cc
    go (done st) q f = absurd (not_done (sym f))

lower_done : (m : Module) (N P : ℕ) (st : State) → lower_state false m N P ≡ done st → lower m N P ≡ done st.netlist
unfolding lower lower_with
lower_done m N P st e = rw e

-- a netlist means the same under other limits
meaning_limited : (N P : ℕ) (l : Netlist) → meaning_of (limited N P l) ≡ meaning_of l
unfolding meaning_of is_output_port not_output model.node_for_net
meaning_limited N P l = refl

-- ---- a call whose checks pass ----

module _ (s : List ℕ) (N P : ℕ) (buffer scratch : List ℕ) (passed : checked s N P (length buffer) (length scratch) ≡ Fine) where
  abbrev m : Module
  m = decode s

  good : Good m
  good = call.is_good s N P buffer scratch passed

  inner : inside.Within m
  inner = within s (accepted s N P (length buffer) (length scratch) passed).0

  small : N ≤ absent
  small = omega (arith, (call.room s N P buffer scratch passed).nets)

  -- a refusal is one of the five, and says what the rules say of it
  reason_of : (k x y : ℕ) → lower m N P ≡ refused k x y → Reason m N P k x y
  reason_of k x y e = go (told m good inner (N, P) small k x y (lower_refused m N P k x y e)) e
    where
      strays : {k x y : ℕ} → stands.Strays m k x y → lower m N P ≡ refused k x y → Reason m N P k x y
      strays (stands.undriven u) e = undriven u
      strays (stands.looping u) e = looping u
      strays (stands.room nets) e = more_nets (record { free = freely_lower m; more = (refused_nets (freely_lower m) N P 0 0 e).0 })
      strays (stands.room list) e = more_words (record { free = freely_lower m; more = (refused_words (freely_lower m) N P 0 0 e).0 })
      strays (stands.spent {x} {y}) e = absurd (never_spent m good false N P absent x y (lower_refused m N P absent x y e) refl)

      go : {k x y : ℕ} → Faults m good inner (N, P) k x y → lower m N P ≡ refused k x y → Reason m N P k x y
      go (phases.stray f) e = strays f e
      go (phases.other f) e = not_constant f

  -- ---- where it comes to its end ----

  module _ (st : State) (ok : lower_state false m N P ≡ done st) where
    faultless : Faultless m N P
    faultless = record {
      driven = none_undriven m good inner (N, P) small st ok;
      loopless = none_looping m good inner (N, P) small st ok;
      constant = λ k b x. none_other m good inner N P st ok k b x;
      few = λ x. let a = accepted_only x.free N P st.netlist (lower_done m N P st ok) in omega (arith, a.1, x.more);
      short = λ x. let a = accepted_only x.free N P st.netlist (lower_done m N P st ok) in omega (arith, a.2, x.more);
    }

    -- ---- the nets ----

    inv : Inv m st
    inv = (subst (λ (o : Out State). Meets Any (outputs.Lowered m good false (N, P)) o) ok (outputs.lowered m good false (N, P) small)).connected.inv

    abbrev left : List ℕ
    left = Call.buffer_after s N P buffer scratch

    meaning : netlist left ≡ meaning_of st.netlist
    meaning = call.netlist_is s N P buffer scratch passed st ok ∙ words_netlist N P st.netlist (call.fit s N P buffer scratch passed st ok)

    agrees : (u : Valuation) (t : Setting) (c : Contents) → Agrees (net_value st.netlist t c) (settled m u t c) st.signal_bits
    unfolding net_value signal_bit
    agrees u t c = record { at = λ p i n e. call.resolved s N P buffer scratch passed st ok u t c p i n e ∙ ap (λ x. net x t c n) meaning }

    words_are : (u : Valuation) (t : Setting) (c : Contents) (e : ℕ) (ns : List ℕ) → whole st e ≡ some ns → map (net (netlist left) t c) ns ≡ word m.exprs (settled m u t c) e
    unfolding net_value
    words_are u t c e ns q = ap (λ x. map (net x t c) ns) meaning ∙ (inv.wholes e ns q).holds st.netlist (later_refl inv.sound) t c (settled m u t c) (agrees u t c)

    has : {A : Type 0} {o : Option A} → Has o → Is o
    has h = (h.value, h.is)

    abbrev all : Accepts m good inner (N, P) st
    all = accepts m good inner (N, P) small st ok

    part_of : (e : ℕ) (ns : List ℕ) (b : ℕ) → whole st e ≡ some ns → expression_net st e b ≡ get_elem? ns b
    unfolding expression_net
    part_of e ns b q = rw (q, expression_net)

    value_whole : (r : R.Register) → AllGot st (register_steps r) → ResetWhole (whole st) r.reset
    value_whole r h = go r.reset (got_split st (wholes (r.next ∷ []) ++ bit_step r.clock ++ control_steps r.enable) (reset_steps r.reset) h).1
      where
        go : (o : Option R.Reset) → AllGot st (reset_steps o) → ResetWhole (whole st) o
        go none h = tt
        go (some x) h = has h.0

    next_whole : (r : R.Register) → AllGot st (register_steps r) → Is (whole st r.next)
    next_whole r h = has h.0

    port_whole : (p : R.Port) → AllGot st (word_steps p) → PortWhole (whole st) p
    port_whole p h = (has h.0, has h.1.0, has h.1.1.0)

    first_whole : (x : R.Memory) → AllGot st (memory_steps x) → PortWhole (whole st) x.first
    first_whole x h =
        let p = x.first in
        let a = got_split st (word_steps p ++ bit_step p.clock ++ enable_steps p) (second_steps x.second) h in
        let b = got_split st (word_steps p ++ bit_step p.clock) (enable_steps p) a.0 in
        port_whole p (got_split st (word_steps p) (bit_step p.clock) b.0).0

    second_whole : (x : R.Memory) → AllGot st (memory_steps x) → SecondWhole (whole st) x.second
    second_whole x h =
        let p = x.first in
        go x.second (got_split st (word_steps p ++ bit_step p.clock ++ enable_steps p) (second_steps x.second) h).1
      where
        go : (o : Option R.Port) → AllGot st (second_steps o) → SecondWhole (whole st) o
        go none h = tt
        go (some q) h = port_whole q (got_split st (word_steps q) (enable_steps q) (got_split st (word_steps q ++ enable_steps q) (bit_step q.clock) h).0).0

    signal_is : (p b : ℕ) → Has (cell none st.signal_bits p b) → Is (signal_bit st p b)
    unfolding signal_bit
    signal_is p b h = has h

    nets_are : Nets m (netlist left)
    nets_are = record {
      whole = whole st;
      bit = expression_net st;
      signal = signal_bit st;
      words = words_are;
      bits = call.demand2 s N P buffer scratch passed st ok;
      signals = call.resolved s N P buffer scratch passed st ok;
      parts = part_of;
      nexts = λ k r e. next_whole r (all.registers k r e).got;
      values = λ k r e. value_whole r (all.registers k r e).got;
      ports = λ k x e. first_whole x (all.memories k x e).got;
      seconds = λ k x e. second_whole x (all.memories k x e).got;
      drivers = λ p b e o n d. has ((needed_served m good inner (N, P) small st ok (p, b) n).lowered e o d);
      needed = λ p b n. signal_is p b (needed_served m good inner (N, P) small st ok (p, b) n).net;
    }

-- ---- the three ways of a call ----

module _ (s : List ℕ) (N P : ℕ) (buffer scratch : List ℕ) where
  abbrev checks : Answer
  checks = checked s N P (length buffer) (length scratch)

  abbrev answer : Answer
  answer = Call.answer s N P buffer scratch

  pub data Ways : Type 0 where
    stopped : (k x y : ℕ) → 1 ≤ k → k ≤ 5 → answer ≡ Refused k x y → checks ≡ Refused k x y → Ways
    refused_by : (k x y : ℕ) → checks ≡ Fine → answer ≡ Refused k x y → Reason (decode s) N P k x y → Ways
    lowered : (st : State) → checks ≡ Fine → lower_state false (decode s) N P ≡ done st → answer ≡ Fine → Ways

  answered : (a b : Answer) → checks ≡ a → outcome (lower (decode s) N P) ≡ b → answer ≡ and_then a b
  unfolding Promise.answer
  answered a b p q = rw (p, q)

  pub ways : Ways
  unfolding and_then outcome
  ways = go checks refl (checked_within s N P (length buffer) (length scratch))
    where
      lowers : checks ≡ Fine → (o : Out Netlist) → lower (decode s) N P ≡ o → Ways
      lowers p (refused k x y) e = refused_by k x y p (answered Fine (Refused k x y) p (ap outcome e)) (reason_of s N P buffer scratch p k x y e)
      lowers p (done l) e = let a = ends s N P (ap outcome e) in lowered a.state p a.is (answered Fine Fine p (ap outcome e))

      go : (a : Answer) → checks ≡ a → Numbered 1 5 a → Ways
      go Fine p h = lowers p (lower (decode s) N P) refl
      go (Refused k x y) p h = stopped k x y h.0 h.1 (answered (Refused k x y) (outcome (lower (decode s) N P)) p refl) p

  -- a call whose checks pass and whose lowering comes to its end
  accepts_so : (n p : ℕ) (wide tall : List ℕ) → checked s n p (length wide) (length tall) ≡ Fine → (st : State) → lower_state false (decode s) n p ≡ done st → Call.answer s n p wide tall ≡ Fine
  unfolding Promise.answer and_then outcome
  accepts_so n p wide tall c st e = rw (c, lower_done (decode s) n p st e)

  -- ---- a call that keeps its promise ----

  module _ (given buffer' scratch' : List ℕ) (numbers : given ≡ numbers_of answer) (kept : Call.Lowered s N P buffer scratch answer buffer' scratch') where
    abbrev fine : List ℕ
    fine = 0 ∷ 0 ∷ 0 ∷ []

    -- the numbers of an answer
    three : {k x y n a b : ℕ} → ◌≡◌ {A = List ℕ} (k ∷ x ∷ y ∷ []) (n ∷ a ∷ b ∷ []) → (k ≡ n) × (x ≡ a) × (y ≡ b)
    three e = (ap (λ (l : List ℕ). get_or l 0 0) e, ap (λ (l : List ℕ). get_or l 1 0) e, ap (λ (l : List ℕ). get_or l 2 0) e)

    of : (a : Answer) → answer ≡ a → given ≡ numbers_of a
    of a e = numbers ∙ ap numbers_of e

    reason_number : {k x y : ℕ} → Reason (decode s) N P k x y → (6 ≤ k) × (k ≤ 10)
    reason_number (undriven u) = (omega arith, omega arith)
    reason_number (looping u) = (omega arith, omega arith)
    reason_number (not_constant u) = (omega arith, omega arith)
    reason_number (more_nets u) = (omega arith, omega arith)
    reason_number (more_words u) = (omega arith, omega arith)

    named : get_or given 0 0 ≤ 10
    unfolding numbers_of
    named = elim ways [
      | stopped k x y a b e c ↦ rw (of (Refused k x y) e) (omega (arith, b))
      | refused_by k x y c e r ↦ rw (of (Refused k x y) e) (reason_number r).1
      | lowered st c o e ↦ rw (of Fine e) (omega arith)
    ]

    -- where the numbers are 0 0 0
    pub record End : Type 0 where
      pub state : State
      pub passed : checks ≡ Fine
      pub is : lower_state false (decode s) N P ≡ done state
      pub accepted : answer ≡ Fine

    end : given ≡ fine → End
    unfolding numbers_of
    end q = elim ways [
      | stopped k x y a b e c ↦ absurd (omega (arith, a, (three (sym (of (Refused k x y) e) ∙ q)).0))
      | refused_by k x y c e r ↦ absurd (omega (arith, (reason_number r).0, (three (sym (of (Refused k x y) e) ∙ q)).0))
      | lowered st c o e ↦ record { state = st; passed = c; is = o; accepted = e }
    ]

    reasons : (n a b : ℕ) → given ≡ n ∷ a ∷ b ∷ [] → 6 ≤ n → (checks ≡ Fine) × Reason (decode s) N P n a b
    unfolding numbers_of
    reasons n a b q h = elim ways [
      | stopped k x y u v e c ↦ absurd (omega (arith, v, h, (three (sym (of (Refused k x y) e) ∙ q)).0))
      | refused_by k x y c e r ↦ (c, (let t = three (sym (of (Refused k x y) e) ∙ q) in moved t r))
      | lowered st c o e ↦ absurd (omega (arith, h, (three (sym (of Fine e) ∙ q)).0))
    ]
      where
        moved : {k x y : ℕ} → (k ≡ n) × (x ≡ a) × (y ≡ b) → Reason (decode s) N P k x y → Reason (decode s) N P n a b
        moved {k} {x} {y} t r = subst (λ (c : ℕ). Reason (decode s) N P c a b) t.0 (subst (λ (c : ℕ). Reason (decode s) N P k c b) t.1 (subst (λ (c : ℕ). Reason (decode s) N P k x c) t.2 r))

    no_fault : {k x y : ℕ} → Reason (decode s) N P k x y → Faultless (decode s) N P → ⊥
    no_fault (undriven {p} {b} u) f = f.driven p b u
    no_fault (looping {p} {b} u) f = f.loopless p b u
    no_fault (not_constant {k} {b} u) f = f.constant k b u
    no_fault (more_nets u) f = f.few u
    no_fault (more_words u) f = f.short u

    others : checks ≡ Fine → Faultless (decode s) N P → given ≡ fine
    unfolding numbers_of
    others p f = elim ways [
      | stopped k x y a b e c ↦ absurd (not_refused (sym p ∙ c))
      | refused_by k x y c e r ↦ absurd (no_fault r f)
      | lowered st c o e ↦ of Fine e
    ]
      where
        not_refused : {k x y : ℕ} → Fine ≡ Refused k x y → ⊥
        not_refused e = let z : ◌≡◌ {A = ℕ} 0 1 = cc in omega arith

    larger : given ≡ fine → (N' P' : ℕ) (wide tall : List ℕ) → N ≤ N' → P ≤ P' → checked s N' P' (length wide) (length tall) ≡ Fine
        → (Call.answer s N' P' wide tall ≡ Fine) × (netlist (Call.buffer_after s N' P' wide tall) ≡ netlist buffer')
    larger q N' P' wide tall h i p =
        let e = end q in
        let ok = grown.larger states (limits false (decode s)) N P (omega arith) (omega arith) N' P' h i e.state e.is in (
          accepts_so N' P' wide tall p (limited_state N' P' e.state) ok,
          meaning s N' P' wide tall p (limited_state N' P' e.state) ok ∙ meaning_limited N' P' e.state.netlist ∙ sym (meaning s N P buffer scratch e.passed e.state e.is) ∙ ap netlist (sym kept.left_buffer),
        )

    pub answers : Answers s N P buffer scratch given buffer' scratch'
    answers = record {
      numbers = numbers;
      lowered = kept;
      named = named;
      demand2 = λ q. let e = end q in subst (λ (b : List ℕ). Nets (decode s) (netlist b)) (sym kept.left_buffer) (nets_are s N P buffer scratch e.passed e.state e.is);
      demand3 = λ q. kept.demand3 (end q).accepted;
      refused = reasons;
      exactly = record {
        only = λ q. let e = end q in (e.passed, faultless s N P buffer scratch e.passed e.state e.is);
        always = λ h. others h.0 h.1;
      };
      free = freely_lower (decode s);
      larger = larger;
    }
