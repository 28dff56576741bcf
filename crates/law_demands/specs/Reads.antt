-- What a step reads in the module and in its netlist, where the nets have the values that they are to have. Assumes nothing.
-- Each reading of the module is first put in terms of the netlist before the step and the new inputs; with the clocks and
-- asynchronous resets input ports it is then the netlist's.
use Rattle.std.specs.Prelude.{◌≡◌, Bool, true, false, List, [], ◌∷◌, map, eqb, get_or}
use Rattle.spec_rtl.specs.Word.{value}
use Rattle.spec_rtl.specs.Rtl as R
use Rattle.spec_rtl.specs.Rtl.{Module, Valuation}
use Rattle.spec_rules.specs.NetlistImage as N
use Rattle.spec_rules.specs.Step.{Setting, Contents, edge, active, enabled, resets, Load, Access, reset_bit}
use Rattle.spec_model.specs.Words.{Netlist}
use Rattle.law_nets.specs.Meaning.{net_value}
use Rattle.law_nets.specs.Sound.{Sound}
use Rattle.law_walk.specs.Kept.{Table, Agrees}

pub head_eq : {a b : Bool} → ◌≡◌ {A = List Bool} (a ∷ []) (b ∷ []) → a ≡ b
head_eq p = cc

-- ---- before the step, with the new inputs u ----

module _ (m : Module) (l : Netlist) (q : Sound l) (t : Table) (s : Setting) (c : Contents) (v : Valuation) (a : Agrees (net_value l s c) v t) where
  -- of a register's bit, with the new inputs u
  abbrev pub half_load : Setting → R.Register → N.RegisterBit → Load
  half_load u r b = record {
    ticks = edge r.rising (net_value l s c b.register.clock) (u r.clock 0);
    synchronous = resets false (net_value l s c) b.register.reset;
    enabled = enabled (net_value l s c) b.register.enable;
    next = net_value l s c b.register.next;
    asynchronous = resets true (λ p. u p 0) r.reset;
    value = reset_bit (λ x. eqb x 1 ∷ []) b.register.reset 0;
  }

  -- of a memory's port
  abbrev pub half_access : Setting → R.Port → N.MemoryPort → Access
  half_access u p b = record {
    ticks = edge p.rising (net_value l s c b.clock) (u p.clock 0);
    reads = enabled (net_value l s c) b.read_enable;
    read_at_of = value (map (net_value l s c) b.read_address);
    writes = active (net_value l s c) b.write_enable;
    write_at = value (map (net_value l s c) b.write_address);
    written = λ i. get_or (map (net_value l s c) b.write_data) i false;
  }
