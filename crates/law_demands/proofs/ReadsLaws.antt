-- What is proved of specs/Reads: What a step reads in the module and in its netlist, where the nets have the values that they are to have. Assumes nothing.
-- Each reading of the module is first put in terms of the netlist before the step and the new inputs; with the clocks and
-- asynchronous resets input ports it is then the netlist's.
use Rattle.std.specs.Prelude.{◌≡◌, refl, Bool, true, false, not, ◌&&◌, List, [], ◌∷◌, map, ℕ, eqb}
use Rattle.std.proofs.Common.{sym}
use Rattle.std.proofs.Math.Option.{Option, none, some}
use Rattle.spec_rtl.specs.Ops.{xor_b}
use Rattle.spec_rtl.specs.Rtl as R
use Rattle.spec_rtl.specs.Rtl.{Module, Valuation, Control, word, dir_of}
use Rattle.spec_rules.specs.NetlistImage as N
use Rattle.spec_rules.specs.Step.{Setting, Contents, enabled, resets, reset_bit, module_load, module_access, net_load, net_access}
use Rattle.spec_model.specs.Words.{Netlist}
use Rattle.law_nets.specs.Meaning.{net_value}
use Rattle.law_nets.specs.Sound.{Sound}
use Rattle.law_nets.proofs.Run.{later_refl}
use Rattle.law_walk.specs.Kept.{Table, Agrees, NetsGive}
use Rattle.law_phases.specs.Made.{IsBit, SameControl, SamePort, SameReset, SameBit}
use Rattle.law_demands.specs.Reads.{head_eq, half_load, half_access}

-- ---- before the step: the nets g have the values of the signals' bits v ----

module _ (m : Module) (l : Netlist) (q : Sound l) (t : Table) (s : Setting) (c : Contents) (v : Valuation) (a : Agrees (net_value l s c) v t) where
  pub bit_at : (n p : ℕ) → IsBit l t n p → net_value l s c n ≡ v p 0
  bit_at n p h = head_eq (h.holds l (later_refl q) s c v a)

  pub word_at : (ns : List ℕ) (w : Valuation → List Bool) → NetsGive l t ns w → map (net_value l s c) ns ≡ w v
  word_at ns w h = h.holds l (later_refl q) s c v a

  enabled_at : (x y : Option Control) → SameControl l t x y → enabled (λ p. v p 0) x ≡ enabled (net_value l s c) y
  enabled_at none none h = refl
  enabled_at none (some y) h = absurd h
  enabled_at (some x) none h = absurd h
  enabled_at (some x) (some y) h = rw (h.1, bit_at y.signal x.signal h.0)

  resets_at : (i : ℕ) (x y : Option R.Reset) → SameReset m l t i x y → resets false (λ p. v p 0) x ≡ resets false (net_value l s c) y
  resets_at i none none h = refl
  resets_at i none (some y) h = absurd h
  resets_at i (some x) none h = absurd h
  resets_at i (some x) (some y) h = rw (h.1, h.2, bit_at y.control.signal x.control.signal h.0)

  value_at : (i : ℕ) (x y : Option R.Reset) → SameReset m l t i x y → reset_bit (word m.exprs v) x i ≡ reset_bit (λ b. eqb b 1 ∷ []) y 0
  value_at i none none h = refl
  value_at i none (some y) h = absurd h
  value_at i (some x) none h = absurd h
  value_at i (some x) (some y) h = h.3.is l (later_refl q) s c v a

  pub half_load_law : (u : Setting) (i : ℕ) (r : R.Register) (b : N.RegisterBit) → SameBit m l t i r b → module_load (word m.exprs v) v u i r ≡ half_load m l q t s c v a u r b
  half_load_law u i r b h =
      rw (
        sym (bit_at b.register.clock r.clock h.clock),
        resets_at i r.reset b.register.reset h.reset,
        enabled_at r.enable b.register.enable h.enable,
        head_eq (sym (word_at (b.register.next ∷ []) _ h.next)),
        value_at i r.reset b.register.reset h.reset,
      )

  pub half_access_law : (u : Setting) (p : R.Port) (b : N.MemoryPort) → SamePort m l t p b → module_access (word m.exprs v) v u p ≡ half_access m l q t s c v a u p b
  half_access_law u p b h =
      rw (
        sym (bit_at b.clock p.clock h.clock),
        enabled_at p.read_enable b.read_enable h.read_enable,
        sym (word_at b.read_address _ h.read_address),
        sym (word_at b.write_address _ h.write_address),
        sym (word_at b.write_data _ h.write_data),
        h.write_enable.1,
        bit_at b.write_enable.signal p.write_enable.signal h.write_enable.0,
      )

-- ---- the new inputs: the nets h have them where a signal is an input ----

module _ (m : Module) (l : Netlist) (t : Table) (s u : Setting) (c : Contents) (input : (n p : ℕ) → dir_of m p ≡ R.Input → IsBit l t n p → net_value l u c n ≡ u p 0) where
  asynchronous_at : (i : ℕ) (x y : Option R.Reset) → SameReset m l t i x y → ((z : R.Reset) → x ≡ some z → z.asynchronous ≡ true → dir_of m z.control.signal ≡ R.Input)
      → resets true (λ p. u p 0) x ≡ resets true (net_value l u c) y
  asynchronous_at i none none h g = refl
  asynchronous_at i none (some y) h g = absurd h
  asynchronous_at i (some x) none h g = absurd h
  asynchronous_at i (some x) (some y) h g = rw (h.1, h.2) (go x.asynchronous refl)
    where
      go : (b : Bool) → x.asynchronous ≡ b
          → (not (xor_b true b) && not (xor_b x.control.level (u x.control.signal 0))) ≡ (not (xor_b true b) && not (xor_b x.control.level (net_value l u c y.control.signal)))
      go true e = rw (input y.control.signal x.control.signal (g x refl e) h.0)
      go false e = refl

  pub net_load_law : (i : ℕ) (r : R.Register) (b : N.RegisterBit) → SameBit m l t i r b → dir_of m r.clock ≡ R.Input
      → ((z : R.Reset) → r.reset ≡ some z → z.asynchronous ≡ true → dir_of m z.control.signal ≡ R.Input)
      → (q : Sound l) (v : Valuation) (a : Agrees (net_value l s c) v t) → half_load m l q t s c v a u r b ≡ net_load (net_value l s c) (net_value l u c) b
  net_load_law i r b h d g q v a =
      rw (sym (input b.register.clock r.clock d h.clock), asynchronous_at i r.reset b.register.reset h.reset g, sym h.rising)

  pub net_access_law : (p : R.Port) (b : N.MemoryPort) → SamePort m l t p b → dir_of m p.clock ≡ R.Input
      → (q : Sound l) (v : Valuation) (a : Agrees (net_value l s c) v t) → half_access m l q t s c v a u p b ≡ net_access (net_value l s c) (net_value l u c) b
  net_access_law p b h d q v a = rw (sym (input b.clock p.clock d h.clock), sym h.rising)
