-- A record pushed after the walk, and what is read of the tables for it. Assumes nothing.
use Rattle.std.specs.Prelude.{◌≡◌, refl, Bool, List, [], ◌∷◌, ◌++◌, map, ℕ, ◌<◌, length, get_or}
use Rattle.std.proofs.Common.{sym, subst, ◌∙◌, arith}
use Rattle.std.proofs.Math.Path.{ap}
use Rattle.std.proofs.Math.Option.{Option, none, some}
use Rattle.std.proofs.lemmas.List.{length-map}
use Rattle.spec_rtl.specs.Rtl.{Module, Control}
use Rattle.spec_rules.specs.NetlistImage.{memory_of, register_bit_of}
use Rattle.spec_model.specs.Words.{Netlist, absent}
use Rattle.spec_model.specs.Builder.{Out, refused, done, and_then, push, from}
use Rattle.spec_model.specs.Lowering.{State, Need, Bit, Whole, Range, Step, cell, whole, with_netlist, signal_net, signal_nets, control_steps, option_control, push_record}
use Rattle.word_laws.specs.Runs.{length_from}
use Rattle.net_view.specs.View.{Formed}
use Rattle.net_view.specs.Laws.{with_record}
use Rattle.law_nets.specs.Meaning.{meaning_of, records_with}
use Rattle.law_nets.specs.Sound.{Sound, Later}
use Rattle.law_nets.specs.Run.{Meets, Limit}
use Rattle.law_nets.specs.Nodes.{with_new, with_same}
use Rattle.law_nets.proofs.Lists.{outputs_none}
use Rattle.law_gates.specs.Sources.{push_run}
use Rattle.law_walk.specs.Tables.{Has}
use Rattle.law_walk.specs.Kept.{Any, Inv}
use Rattle.law_walk.specs.Reads.{After, AllAsked, AllAfter, map_append}
use Rattle.law_walk.proofs.ReadsLaws.{step_stays, read_bit}
use Rattle.law_records.specs.Back.{There}
use Rattle.law_phases.specs.Made.{IsBit, SameControl}

-- ---- lists of steps ----

pub asked_append : (m : Module) (ss rs : List Step) → AllAsked m ss → AllAsked m rs → AllAsked m (ss ++ rs)
asked_append m [] rs h k = k
asked_append m (s ∷ ss) rs h k = (h.0, asked_append m ss rs h.1 k)

pub after_append : (ob : Bool) (st : State) (ss rs : List Step) → AllAfter ob st (ss ++ rs) → AllAfter ob st ss × AllAfter ob st rs
after_append ob st [] rs h = (tt, h)
after_append ob st (s ∷ ss) rs h = let r = after_append ob st ss rs h.1 in ((h.0, r.0), r.1)

pub control_asked : (m : Module) (o : Option Control) → AllAsked m (control_steps o)
control_asked m none = tt
control_asked m (some c) = (tt, tt)

-- a later netlist leaves the tables
after_netlist : (st : State) (l : Netlist) (n : Need) → After st n → After (with_netlist st l) n
unfolding whole
after_netlist st l (Bit s b) h = h
after_netlist st l (Whole e) h = h
after_netlist st l (Range e lsb w) h = h

whole_netlist : (st : State) (l : Netlist) (e : ℕ) (ns : List ℕ) → whole st e ≡ some ns → whole (with_netlist st l) e ≡ some ns
unfolding whole
whole_netlist st l e ns h = h

pub all_after_netlist : (ob : Bool) (st : State) (l : Netlist) → Sound st.netlist → Later st.netlist l → (ss : List Step) → AllAfter ob st ss → AllAfter ob (with_netlist st l) ss
all_after_netlist ob st l q a [] h = tt
all_after_netlist ob st l q a (s ∷ ss) h = (step_stays st q (with_netlist st l) a (whole_netlist st l) (after_netlist st l) ob s h.0, all_after_netlist ob st l q a ss h.1)

-- ---- controls ----

module _ (m : Module) (ob : Bool) (st : State) (i : Inv m st) where
  pub bit_is : (p : ℕ) → Has (cell none st.signal_bits p 0) → IsBit st.netlist st.signal_bits (signal_net st p 0) p
  bit_is p h = read_bit m st i p 0 h

  -- a net that is there is not absent
  pub net_there : (p : ℕ) → Has (cell none st.signal_bits p 0) → signal_net st p 0 < absent
  net_there p h = omega (arith, (bit_is p h).there.0, i.sound.few, i.sound.small)

  pub control_same : (o : Option Control) → AllAfter ob st (control_steps o) → SameControl st.netlist st.signal_bits o (option_control st o)
  control_same none h = tt
  control_same (some c) h = (bit_is c.signal h.0, refl)

  pub control_there : (o : Option Control) → AllAfter ob st (control_steps o) → There (option_control st o)
  control_there none h = tt
  control_there (some c) h = net_there c.signal h.0

pub nets_length : (st : State) (s b w : ℕ) → length (signal_nets st s b w) ≡ w
unfolding signal_nets
nets_length st s b w = length-map (from b w) (signal_net st s) ∙ length_from b w

-- ---- one record more ----

-- the lists that a record of another sort leaves
module _ (r : List ℕ) (l : Netlist) where
  pub memories_left : (get_or r 0 0 ≡ 2 → ⊥) → (meaning_of (with_record r l)).memories ≡ (meaning_of l).memories
  unfolding meaning_of
  memories_left h = ap (map memory_of) (with_same 2 l.records r h)

  pub registers_left : (get_or r 0 0 ≡ 1 → ⊥) → (meaning_of (with_record r l)).registers ≡ (meaning_of l).registers
  unfolding meaning_of
  registers_left h = ap (map register_bit_of) (with_same 1 l.records r h)

  pub outputs_left : Later l (with_record r l) → Sound l → (get_or r 0 0 ≡ 0 → ⊥) → (meaning_of (with_record r l)).outputs ≡ (meaning_of l).outputs
  outputs_left a q h = outputs_none a.grew q (with_same 0 l.records r h)

  pub memories_one : get_or r 0 0 ≡ 2 → (meaning_of (with_record r l)).memories ≡ (meaning_of l).memories ++ (memory_of r ∷ [])
  unfolding meaning_of
  memories_one h = ap (map memory_of) (with_new 2 l.records r h) ∙ map_append memory_of (records_with 2 l.records) (r ∷ [])

  pub registers_one : get_or r 0 0 ≡ 1 → (meaning_of (with_record r l)).registers ≡ (meaning_of l).registers ++ (register_bit_of r ∷ [])
  unfolding meaning_of
  registers_one h = ap (map register_bit_of) (with_new 1 l.records r h) ∙ map_append register_bit_of (records_with 1 l.records) (r ∷ [])

pub pushed : (P : State → Type 0) (r : List ℕ) (st : State) → Sound st.netlist → Formed r → 0 < get_or r 0 0 → get_or r 0 0 < 3
    → (Later st.netlist (with_record r st.netlist) → P (with_netlist st (with_record r st.netlist))) → Meets Any P (push_record r st)
pushed P r st q f a b k = go (push r st.netlist) (push_run r st.netlist q f a b)
  where
    go : (o : Out Netlist) → Meets Limit (λ (l : Netlist). (l ≡ with_record r st.netlist) × Later st.netlist l) o → Meets Any P (and_then o (λ l. done (with_netlist st l)))
    go (refused n x y) w = tt
    go (done l) w = subst (λ (h : Netlist). P (with_netlist st h)) (sym w.0) (k (subst (λ (h : Netlist). Later st.netlist h) w.0 w.1))
