-- The tables that are made once, in lent slices. Assumes nothing.
use Rattle.std.specs.Prelude.{ℕ, ◌≤◌, ◌≡◌, Bool, true, false, not, List, length, take}
use Rattle.std.proofs.Common.{sym, ◌∙◌, arith}
use Rattle.spec_tests.specs.Rules.{Fine}
use Rattle.spec_netlist.specs.Accept.{used, accepts}
use Rattle.spec_trace.specs.Opened.{unfit, nets_with}
use Rattle.law_told.specs.Told.{untrue}
use Rattle.listing_text.specs.Text.{Wrote, wrote_whole}
use Rattle.trace_walk.specs.Places.{Places}
use Rattle.trace_pass.specs.Plan.{Plan}
use Rattle.trace_ports.specs.Ports.{joined, joined_is}
use Rattle.trace_line.specs.State.{Prepared}
use Rattle.trace_tables.specs.Few.{nets_few}

-- how many words of each table are used, where the netlist is fit
pub record Ready (ws steps inputs outputs registers memories : List ℕ) (fit : Bool) (ns ni no nr nm : ℕ) : Type 0 where
  pub fits : not fit ≡ unfit 65536 ws
  pub prepared : fit ≡ true → Prepared ws steps ns (take ni inputs) (take no outputs) registers nr memories nm
  pub inputs_in : ni ≤ length inputs
  pub outputs_in : no ≤ length outputs

-- the nets of ports, written to a table with room for the list's words
pub record Nets (ws : List ℕ) (kind : ℕ) (out : List ℕ) (n : ℕ) : Type 0 where
  pub are : take n out ≡ nets_with kind ws
  pub upto : n ≤ length out

pub nets_are : (ws : List ℕ) (kind : ℕ) {places o out : List ℕ} {count r : ℕ} → accepts ws ≡ Fine → Places ws 0 places count → used ws ≤ length o → Wrote o 0 (joined ws kind places count) out r → Nets ws kind out r
nets_are ws kind {places} {o} {out} {count} {r} ok p h w =
    let j = joined_is ws ok kind p in
    let f = nets_few ws kind in
    record { are = wrote_whole w (rw j (omega arith)) ∙ j; upto = w.upto }

pub ready : {ws steps inputs outputs registers memories : List ℕ} {b : Bool} {ns ni no nr nm : ℕ} → accepts ws ≡ Fine → b ≡ unfit 65536 ws → Plan ws steps ns → Nets ws 0 inputs ni → Nets ws 8 outputs no → Places ws 1 registers nr → Places ws 2 memories nm
    → Ready ws steps inputs outputs registers memories (not b) ns ni no nr nm
ready {b = false} ok u p i o r m = record {
  fits = u;
  prepared = λ f. record { ok = ok; plan = p; inputs_are = i.are; outputs_are = o.are; registers_at = r; memories_at = m; fit = sym u };
  inputs_in = i.upto;
  outputs_in = o.upto;
}
ready {b = true} ok u p i o r m = record { fits = u; prepared = λ f. untrue f; inputs_in = i.upto; outputs_in = o.upto }
