-- A line on the tables of a run: the first one and the others leave them as the step rule does. Assumes nothing.
use Prim.Native.Nat.{ℕ, ◌≤◌, ◌<◌}
use native.Mathlib.Omega.{arith}
use Rattle.std.specs.Prelude.{◌≡◌, refl, Bool, true, false, cond, ltb}
use Rattle.std.proofs.Math.Path.{sym, ap}
use Rattle.std.proofs.Common.{subst, ◌∙◌, ⊎_elim}
use mathlib.Core.List.{List}
use Rattle.std.proofs.Math.ListN.{length, get_or}
use Rattle.spec_rtl.specs.Word.{bit, bit_lt}
use Rattle.spec_tests.specs.Rules.{◌≡?◌, ◌or◌, Fine}
use Rattle.spec_tests.specs.Laws.{yes_eq}
use Rattle.spec_rules.specs.NetlistImage.{node_word, netlist}
use Rattle.spec_rules.specs.Step.{Setting, Contents, act, net, data_width, of_netlist}
use Rattle.spec_netlist.specs.Accept.{accepts}
use Rattle.spec_trace.specs.Opened.{input_nets}
use Rattle.spec_trace.specs.Trace.{setting_of, zeroed, Before, At, reached}
use Rattle.law_told.specs.Told.{or_split}
use Rattle.law_reads.specs.Reads.{node_of, is_source}
use Rattle.trace_cells.specs.Digits.{Bits}
use Rattle.trace_pass.specs.Plan.{size, Loaded}
use Rattle.trace_pass.specs.Steps.{size_is}
use Rattle.trace_plan.specs.Kinds.{is_source_law}
use Rattle.trace_step.specs.Words.{spread, registers_done, memories_read, memories_written}
use Rattle.trace_sim.specs.Moves.{Moves, moves_spread}
use Rattle.trace_sim.specs.Sources.{input_net, register_net, memory_net}
use Rattle.trace_sim.specs.Registers.{Inputs}
use Rattle.trace_sim.specs.Step.{Fit, Stored, loaded_after, stored_after}
use Rattle.trace_sim.specs.Inputs.{input_char, input_at_law}
use Rattle.trace_line.specs.State.{Prepared, Sized, Holds, fit_of, base_total}

-- a character as a bit
abbrev pub char : ℕ → ℕ
char b = bit (b ≡? 49)

module _ (ws : List ℕ) (ok : accepts ws ≡ Fine) (l : List ℕ) (d : Contents) where
  -- the line's characters are the wanted values of the inputs
  pub inputs_move : (v : List ℕ) → size ws ≤ length v → Moves (λ j. bit (net (netlist ws) (setting_of ws l) d j)) v (spread char v (input_nets ws) l)
      × ((j : ℕ) → j < size ws → node_word ws j 0 ≡ 0 → get_or (spread char v (input_nets ws) l) j 0 ≡ bit (setting_of ws l (node_word ws j 1) (node_word ws j 2)))
  unfolding setting_of
  inputs_move v wide =
      let m = moves_spread (λ j. bit (net (netlist ws) (setting_of ws l) d j)) char v (input_nets ws) l each in (
        m.0,
        λ j h k. (let z = size_is ws in
            let a = input_at_law ws ok j (omega arith) k in
            ap (λ (i : ℕ). get_or (spread char v (input_nets ws) l) i 0) (sym a.is) ∙ m.1 a.at a.inside ∙ ap (λ (i : ℕ). bit (net (netlist ws) (setting_of ws l) d i)) a.is ∙ ap bit (input_net ws ok (setting_of ws l) d j h k)),
      )
    where
      each : (q : ℕ) → q < length (input_nets ws) → (get_or (input_nets ws) q 0 < length v) × (char (get_or l q 0) ≡ bit (net (netlist ws) (setting_of ws l) d (get_or (input_nets ws) q 0)))
      each q h =
          let z = size_is ws in
          let a = input_char ws ok l q h in
          let b = a.there in
          (omega arith, ap bit (sym a.is) ∙ sym (ap bit (input_net ws ok (setting_of ws l) d (get_or (input_nets ws) q 0) (omega arith) a.kind)))

-- a table in which each word is a bit or a wanted bit
bits_moved : (g : ℕ → Bool) {v w : List ℕ} → Moves (λ j. bit (g j)) v w → Bits v → Bits w
bits_moved g {v} {w} m b = record {
  low = λ j. ⊎_elim (λ (e : get_or w j 0 ≡ get_or v j 0). (let l = b.low j in omega arith)) (λ (e : get_or w j 0 ≡ bit (g j)). (let l = bit_lt (g j) in omega arith)) (m.only j);
}

module _ {ws steps : List ℕ} {count : ℕ} {inputs outputs registers : List ℕ} {nr : ℕ} {memories : List ℕ} {nm : ℕ} (p : Prepared ws steps count inputs outputs registers nr memories nm) (l : List ℕ) where
  -- the tables after a line: loaded, to be settled by the plan
  pub record Next (c : Contents) (values memory values' memory' : List ℕ) : Type 0 where
    pub loaded : Loaded ws (setting_of ws l) c values'
    pub bits : Bits values'
    pub long : length values' ≡ length values
    pub stored : Stored ws p.ok c memories memory'
    pub room : length memory' ≡ length memory

  -- the new inputs stand in the table before anything else changes
  pub inputs_loaded : (s : Setting) (c : Contents) (values : List ℕ) → size ws ≤ length values → {w : List ℕ} → w ≡ spread char values inputs l → Inputs ws p.ok s (setting_of ws l) c w
  inputs_loaded s c values wide e =
      subst (Inputs ws p.ok s (setting_of ws l) c) (sym (e ∙ ap (λ (n : List ℕ). spread char values n l) p.inputs_are)) (record { at = (inputs_move ws p.ok l c values wide).1 })

  pub next_line : (s : Setting) (c : Contents) (k : ℕ) (values memory : List ℕ) → Sized ws values memory → Holds ws p.ok memories k (At s c) values memory
      → {w₁ w₂ w₃ m : List ℕ} → w₁ ≡ spread char values inputs l → w₂ ≡ registers_done ws values registers nr w₁ → w₃ ≡ memories_read ws memory values memories nm w₂ → m ≡ memories_written ws values w₃ memories nm memory
      → Next (reached ws (At s c) (setting_of ws l)) values memory w₃ m
  unfolding reached
  next_line s c k values memory z h {w₁} {w₂} {w₃} {m} e₁ e₂ e₃ e₄ =
      let d = act ((of_netlist (netlist ws)).reads s c (setting_of ws l)) c in
      let x = h.1.0 in
      let i = inputs_move ws p.ok l d values z.wide in
      let f : w₁ ≡ spread char values (input_nets ws) l = e₁ ∙ ap (λ (n : List ℕ). spread char values n l) p.inputs_are in
      let y = inputs_loaded s c values z.wide (sym (ap (λ (n : List ℕ). spread char values n l) p.inputs_are)) in
      let a = loaded_after ws p.ok fit_of_p s (setting_of ws l) c x p.registers_at p.memories_at (spread char values (input_nets ws) l) i.0 y z.wide memory h.1.1 in
      let g : w₃ ≡ memories_read ws memory values memories nm (registers_done ws values registers nr (spread char values (input_nets ws) l)) = e₃ ∙ ap (memories_read ws memory values memories nm) (e₂ ∙ ap (registers_done ws values registers nr) f) in
      let b = stored_after ws p.ok fit_of_p s (setting_of ws l) c x p.memories_at (memories_read ws memory values memories nm (registers_done ws values registers nr (spread char values (input_nets ws) l))) a.1 memory h.1.1 (let q = base_total p in let r = z.room in omega arith) in
      let o : m ≡ memories_written ws values (memories_read ws memory values memories nm (registers_done ws values registers nr (spread char values (input_nets ws) l))) memories nm memory = e₄ ∙ ap (λ (n : List ℕ). memories_written ws values n memories nm memory) g in
      rw (o, g) (record {
        loaded = a.0;
        bits = bits_moved (net (netlist ws) (setting_of ws l) d) a.2 z.bits;
        long = a.2.long;
        stored = b.0;
        room = b.1;
      })
    where
      fit_of_p : Fit ws p.ok
      fit_of_p = fit_of p

  pub first_line_law : (k : ℕ) (values memory : List ℕ) → Sized ws values memory → Holds ws p.ok memories k Before values memory → {w₁ : List ℕ} → w₁ ≡ spread char values inputs l
      → Next (reached ws Before (setting_of ws l)) values memory w₁ memory
  unfolding reached
  first_line_law k values memory z h {w₁} e₁ =
      let i = inputs_move ws p.ok l zeroed values z.wide in
      let f : w₁ ≡ spread char values (input_nets ws) l = e₁ ∙ ap (λ (n : List ℕ). spread char values n l) p.inputs_are in
      rw f (record {
        loaded = record { holds = λ j b e. source j b (is_source_law ws p.ok j b) e i.0 i.1 };
        bits = bits_moved (net (netlist ws) (setting_of ws l) zeroed) i.0 z.bits;
        long = i.0.long;
        stored = record { rows = λ m q. record { at = λ a b c d. h.1.1 _ } };
        room = refl;
      })
    where
      fin : List ℕ
      fin = spread char values (input_nets ws) l

      held : (j : ℕ) → Moves (λ j. bit (net (netlist ws) (setting_of ws l) zeroed j)) values fin → net (netlist ws) (setting_of ws l) zeroed j ≡ false → get_or fin j 0 ≡ bit (net (netlist ws) (setting_of ws l) zeroed j)
      held j m e = ⊎_elim (λ (f : get_or fin j 0 ≡ get_or values j 0). f ∙ h.1.0 j ∙ sym (ap bit e)) (λ (f : get_or fin j 0 ≡ bit (net (netlist ws) (setting_of ws l) zeroed j)). f) (m.only j)

      source : (j : ℕ) → j < size ws → is_source (node_of (netlist ws) j) ≡ (node_word ws j 0 ≡? 0 or node_word ws j 0 ≡? 7 or node_word ws j 0 ≡? 9) → is_source (node_of (netlist ws) j) ≡ true
          → Moves (λ j. bit (net (netlist ws) (setting_of ws l) zeroed j)) values fin
          → ((j : ℕ) → j < size ws → node_word ws j 0 ≡ 0 → get_or fin j 0 ≡ bit (setting_of ws l (node_word ws j 1) (node_word ws j 2))) → get_or fin j 0 ≡ bit (net (netlist ws) (setting_of ws l) zeroed j)
      source j b f e m n =
          or_split (node_word ws j 0 ≡? 0) (node_word ws j 0 ≡? 7 or node_word ws j 0 ≡? 9) (sym f ∙ e) (λ k. n j b (yes_eq _ _ k) ∙ sym (ap bit (input_net ws p.ok (setting_of ws l) zeroed j b (yes_eq _ _ k))))
          (λ k. or_split (node_word ws j 0 ≡? 7) (node_word ws j 0 ≡? 9) k (λ k. held j m (register_net ws p.ok (setting_of ws l) zeroed j b (yes_eq _ _ k)))
          (λ k. held j m (memory_net ws p.ok (setting_of ws l) zeroed j b (yes_eq _ _ k) ∙ no_data (ltb (node_word ws j 2) (data_width (netlist ws) (node_word ws j 1))))))
        where
          no_data : (b : Bool) → cond b false false ≡ false
          no_data true = refl
          no_data false = refl
