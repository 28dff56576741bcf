-- The walk's phases one after the other: what each leaves is what the next asks, and together they are the model's lowering. Assumes nothing.
use mathlib.Core.Path.{◌≡◌, refl, sym, ap, ◌∙◌, subst}
use mathlib.Core.Bool.{false}
use mathlib.Core.List.{List}
use mathlib.Core.Option.{some}
use Prim.Native.Nat.{ℕ, ◌+◌}
use native.Mathlib.Nat.{zero-add, not-suc-le-zero}
use native.Mathlib.Omega.{arith}
use lib.ListN.{length, get_or, get_elem?}
use lib.Seq.{get_or-take}
use Rattle.spec_rtl.specs.Rtl.{Module}
use Rattle.spec_rules.specs.Image.{decode}
use Rattle.spec_model.specs.Builder.{Out, and_then}
use Rattle.spec_model.specs.Lowering.{State, reserve_sources, connect_memories, connect_registers, connect_outputs, lower_state}
use Rattle.law_nets.specs.Run.{Meets}
use Rattle.net_view.specs.View.{room}
use Rattle.law_walk.specs.Good.{Good}
use Rattle.law_walk.specs.Kept.{Any}
use Rattle.law_phases.specs.Supply.{supply}
use Rattle.law_phases.specs.Made.{Connected}
use Rattle.law_phases.specs.Sources.{Reserved, started, sources_run}
use Rattle.law_phases.proofs.Sources.{connected}
use Rattle.law_phases.proofs.Memories.{memories_walk}
use Rattle.law_phases.proofs.Registers.{registers_walk}
use Rattle.law_phases.proofs.Registers.{AllBits}
use Rattle.law_module.proofs.Good.{good}
use Rattle.scratch_view.specs.View.{limit_of}
use Rattle.std.specs.Prelude.{Ok}
use Rattle.walk_view.specs.Refusals.{Lowered}
use Rattle.walk_view.specs.View.{walk_state, Sure, Kept, Phase}
use Rattle.walk_view.specs.Answers.{Refused}
use Rattle.walk_view.specs.Phases.{phase_then, phase_out}
use Rattle.lower.specs.Lower.{Begun}

-- ---- one phase and what follows it ----

pub limit_kept : (s net w net₁ w₁ : List ℕ) → Kept s net w net₁ w₁ → limit_of w₁ ≡ limit_of w
limit_kept s net w net₁ w₁ k = sym (get_or-take 64 w₁ 0 0 (omega arith)) ∙ ap (λ (x : List ℕ). get_or x 0 0) k.fixed ∙ get_or-take 64 w 0 0 (omega arith)

-- what the model's outcome meets, the state meets that the words hold
after : (s net w net₁ w₁ : List ℕ) (o : Out State) (P : State → Type 0) → Meets Any P o → Phase o s net w (Ok tt) net₁ w₁ → P (walk_state s net₁ w₁)
after s net w net₁ w₁ o P m a = subst (λ (x : Out State). Meets Any P x) a.says m

-- ---- the four phases, from the start ----

abbrev sources : Module → State → Out State
sources m st = reserve_sources m st

abbrev memories : Module → State → Out State
memories m st = connect_memories m false 0 m.memories st

abbrev registers : Module → State → Out State
registers m st = connect_registers m false 0 m.registers st

abbrev outputs : Module → State → Out State
outputs m st = connect_outputs m false 0 m.signals st

self : {A : Type 0} (ys : List A) (j : ℕ) (x : A) → get_elem? ys j ≡ some x → get_elem? ys (0 + j) ≡ some x
self ys j x e = rw (zero-add j) e

module _ (s net w : List ℕ) (b : Begun s net w) where
  abbrev m : Module
  m = decode s

  abbrev lim : ℕ × ℕ
  lim = (limit_of w, room (limit_of w) net)

  fine : Good m
  fine = good s b.ready.accepted

  begun : Reserved m lim (walk_state s net w)
  begun = subst (λ (st : State). Reserved m lim st) (sym b.state) (started m (limit_of w) (room (limit_of w) net) (omega (arith, b.ready.laid.limited)))

  whole : (r : Lowered) (net' w' : List ℕ)
      → Phase (and_then (sources m (walk_state s net w)) (λ st₁. and_then (memories m st₁) (λ st₂. and_then (registers m st₂) (λ st₃. outputs m st₃)))) s net w r net' w'
      → Phase (lower_state false m (limit_of w) (room (limit_of w) net)) s net w r net' w'
  unfolding lower_state
  whole r net' w' a =
      subst (λ (st : State). Phase (and_then (sources m st) (λ st₁. and_then (memories m st₁) (λ st₂. and_then (registers m st₂) (λ st₃. outputs m st₃)))) s net w r net' w') b.state a

  -- the sources were refused
  pub refused_1 : (r : Lowered) (net₁ w₁ : List ℕ) → Refused r → Phase (sources m (walk_state s net w)) s net w r net₁ w₁
      → Phase (lower_state false m (limit_of w) (room (limit_of w) net)) s net w r net₁ w₁
  refused_1 r net₁ w₁ f a = whole r net₁ w₁ (phase_out _ _ s net w net₁ w₁ r f a)

  module _ (net₁ w₁ : List ℕ) (a₁ : Phase (sources m (walk_state s net w)) s net w (Ok tt) net₁ w₁) where
    connected_1 : Connected m lim (walk_state s net₁ w₁) 0 (λ j. 0) 0
    connected_1 = connected m lim (walk_state s net₁ w₁) (after s net w net₁ w₁ _ (Reserved m lim) (sources_run m fine lim (walk_state s net w) begun) a₁)

    pub sure_1 : Sure s net₁ w₁
    sure_1 = connected_1.inv

    pub refused_2 : (r : Lowered) (net₂ w₂ : List ℕ) → Refused r → Phase (memories m (walk_state s net₁ w₁)) s net₁ w₁ r net₂ w₂
        → Phase (lower_state false m (limit_of w) (room (limit_of w) net)) s net w r net₂ w₂
    refused_2 r net₂ w₂ f a = whole r net₂ w₂ (phase_then _ _ s net w net₁ w₁ (Ok tt) r net₂ w₂ refl a₁ (phase_out _ _ s net₁ w₁ net₂ w₂ r f a))

    module _ (net₂ w₂ : List ℕ) (a₂ : Phase (memories m (walk_state s net₁ w₁)) s net₁ w₁ (Ok tt) net₂ w₂) where
      connected_2 : Connected m lim (walk_state s net₂ w₂) (0 + length m.memories) (λ j. 0) 0
      connected_2 =
          after s net₁ w₁ net₂ w₂ _ (λ st. Connected m lim st (0 + length m.memories) (λ j. 0) 0)
          (memories_walk supply m fine false lim 0 (λ j. 0) 0 m.memories (self m.memories) (walk_state s net₁ w₁) connected_1) a₂

      pub sure_2 : Sure s net₂ w₂
      sure_2 = connected_2.inv

      pub refused_3 : (r : Lowered) (net₃ w₃ : List ℕ) → Refused r → Phase (registers m (walk_state s net₂ w₂)) s net₂ w₂ r net₃ w₃
          → Phase (lower_state false m (limit_of w) (room (limit_of w) net)) s net w r net₃ w₃
      refused_3 r net₃ w₃ f a =
          whole r net₃ w₃ (phase_then _ _ s net w net₁ w₁ (Ok tt) r net₃ w₃ refl a₁ (phase_then _ _ s net₁ w₁ net₂ w₂ (Ok tt) r net₃ w₃ refl a₂ (phase_out _ _ s net₂ w₂ net₃ w₃ r f a)))

      module _ (net₃ w₃ : List ℕ) (a₃ : Phase (registers m (walk_state s net₂ w₂)) s net₂ w₂ (Ok tt) net₃ w₃) where
        pub sure_3 : Sure s net₃ w₃
        sure_3 =
            (after s net₂ w₂ net₃ w₃ _ (AllBits m fine false lim (0 + length m.memories) 0)
            (registers_walk m fine false lim supply 0 m.registers (self m.registers) (zero-add (length m.registers)) (0 + length m.memories) 0 (λ j. 0)
            (λ x h. absurd (not-suc-le-zero h)) (λ x h. refl) (walk_state s net₂ w₂) connected_2) a₃).connected.inv

        pub ended : (r : Lowered) (net₄ w₄ : List ℕ) → Phase (outputs m (walk_state s net₃ w₃)) s net₃ w₃ r net₄ w₄
            → Phase (lower_state false m (limit_of w) (room (limit_of w) net)) s net w r net₄ w₄
        ended r net₄ w₄ a =
            whole r net₄ w₄ (phase_then _ _ s net w net₁ w₁ (Ok tt) r net₄ w₄ refl a₁ (phase_then _ _ s net₁ w₁ net₂ w₂ (Ok tt) r net₄ w₄ refl a₂ (phase_then _ _ s net₂ w₂ net₃ w₃ (Ok tt) r net₄ w₄ refl a₃ a)))
