-- A settings line on the tables of a run: refused, or taken and answered. Assumes nothing.
use Rattle.std.specs.Prelude.{ℕ, suc, ◌+◌, ◌≤◌, ◌<◌, ◌≡◌, refl, Bool, true, false, List, [], ◌∷◌, ◌++◌, map, length, get_or}
use Rattle.std.proofs.Common.{arith, sym, ap, ◌∙◌, append_assoc, length-append}
use Rattle.std.proofs.lemmas.List.{length-map}
use Rattle.spec_tests.specs.Rules.{◌≡?◌, ◌≢?◌, ◌or◌, ◌and◌, Refused, Fine}
use Rattle.spec_rules.specs.NetlistImage.{netlist}
use Rattle.spec_rules.specs.Step.{Setting, Contents, net}
use Rattle.spec_netlist.specs.Accept.{accepts}
use Rattle.spec_trace.specs.Opened.{having, output_nets}
use Rattle.spec_trace.specs.Trace.{setting_of, wrong_line, digit, values, shown, Now, At, reached, Goes, Stops, settings_line, said}
use Rattle.law_told.specs.Told.{untrue}
use Rattle.listing_text.specs.Text.{Wrote, wrote_none, wrote_same, refusal_text, spaced, line_spaced}
use Rattle.law_histories.specs.Lines.{line_wrong, line_clash, line_goes}
use Rattle.trace_pass.specs.Plan.{Valued}
use Rattle.trace_pass.specs.Steps.{size_is}
use Rattle.trace_step.specs.Words.{on}
use Rattle.trace_sim.specs.Sources.{on_bit}
use Rattle.trace_sim.specs.Inputs.{port_net}
use Rattle.trace_line.specs.State.{Prepared, Sized, Holds}
use Rattle.trace_line.specs.Standing.{Standing, Taken}

-- ---- refusals ----

-- refusal n at line k and place x
pub record Refuses (n k x : ℕ) (out : List ℕ) (at : ℕ) (out' : List ℕ) (to : ℕ) (stop : Bool) : Type 0 where
  pub last : stop ≡ true
  pub wrote : Wrote out at (refusal_text n k x) out' to

-- nothing where a keep or a back was done, else refusal 15
pub record Unless (done : Bool) (k : ℕ) (out : List ℕ) (at : ℕ) (out' : List ℕ) (to : ℕ) (stop : Bool) : Type 0 where
  pub yes : done ≡ true → (stop ≡ false) × Wrote out at [] out' to
  pub no : done ≡ false → Refuses 15 k 0 out at out' to stop

pub unless_yes : {k at : ℕ} {out : List ℕ} (done : Bool) → done ≡ true → at ≤ length out → Unless done k out at out at false
unless_yes {at = at} {out = out} done e h = record { yes = λ f. (refl, wrote_none out at h); no = λ f. untrue (sym f ∙ e) }

pub unless_no : {k at to : ℕ} {out out' : List ℕ} {stop : Bool} (done : Bool) → done ≡ false → Refuses 15 k 0 out at out' to stop → Unless done k out at out' to stop
unless_no done e r = record { yes = λ f. untrue (sym e ∙ f); no = λ f. r }

-- ---- the text ----

pub said_is : (n a b : ℕ) → said (Refused n a b) ≡ refusal_text n a b
unfolding said spaced
said_is n a b = line_spaced _ _ ∙ simp append_assoc

-- what is shown is what the nets hold
map_same : (f g : ℕ → ℕ) (xs : List ℕ) → ((i : ℕ) → i < length xs → f (get_or xs i 0) ≡ g (get_or xs i 0)) → map f xs ≡ map g xs
map_same f g [] h = refl
map_same f g (x ∷ xs) h = ap (λ (b : ℕ). b ∷ map f xs) (h 0 (omega arith)) ∙ ap (λ (l : List ℕ). g x ∷ l) (map_same f g xs (λ i l. h (suc i) (omega arith)))

pub shown_is : {ws : List ℕ} → accepts ws ≡ Fine → {s : Setting} {c : Contents} {v nets : List ℕ} → Valued ws s c v → nets ≡ output_nets ws → map (λ n. digit (on v n)) nets ++ (10 ∷ []) ≡ shown ws s c
unfolding shown
shown_is {ws} ok {s} {c} {v} x e =
    ap (λ (l : List ℕ). map (λ n. digit (on v n)) l ++ (10 ∷ [])) e
    ∙ ap (λ (l : List ℕ). l ++ (10 ∷ [])) (map_same (λ n. digit (on v n)) (λ n. digit (net (netlist ws) s c n)) (output_nets ws) (λ i h.
    (let z = size_is ws in
    let b = port_net ws ok 8 i h in
    ap digit (ap (λ (k : ℕ). k ≡? 1) (x.holds (get_or (output_nets ws) i 0) (omega arith)) ∙ on_bit (net (netlist ws) s c (get_or (output_nets ws) i 0))))))

shown_length : (ws : List ℕ) (s : Setting) (c : Contents) → length (shown ws s c) ≡ length (output_nets ws) + 1
unfolding shown
shown_length ws s c = length-append (map (λ k. digit (get_or (values (netlist ws) s c) k false)) (output_nets ws)) (10 ∷ []) ∙ ap (λ (n : ℕ). n + 1) (length-map (output_nets ws) (λ k. digit (get_or (values (netlist ws) s c) k false)))

-- ---- what a settings line comes to ----

module _ (ws steps : List ℕ) (count : ℕ) (inputs outputs registers : List ℕ) (nr : ℕ) (memories : List ℕ) (nm k : ℕ) (l out : List ℕ) (at : ℕ) (values memory : List ℕ) where
  -- it is refused
  pub record Refused-at (out' : List ℕ) (to : ℕ) : Type 0 where
    pub number : ℕ
    pub place : ℕ
    pub small : (number < 4294967296) × (place < 4294967296)
    pub wrote : Wrote out at (refusal_text number k place) out' to
    pub says : (p : Prepared ws steps count inputs outputs registers nr memories nm) (n : Now) → Holds ws p.ok memories k n values memory → settings_line ws k n l ≡ Stops (Refused number k place)

  -- it is taken and answered
  pub record Settled (p : Prepared ws steps count inputs outputs registers nr memories nm) (n : Now) (values' memory' out' : List ℕ) (to : ℕ) : Type 0 where
    pub text : List ℕ
    pub short : length text ≡ length (output_nets ws) + 1
    pub wrote : Wrote out at text out' to
    pub holds : Holds ws p.ok memories (k + 1) (At (setting_of ws l) (reached ws n (setting_of ws l))) values' memory'
    pub says : settings_line ws k n l ≡ Goes text (At (setting_of ws l) (reached ws n (setting_of ws l)))

  pub record Settles (to : ℕ) (stop : Bool) (out' values' memory' : List ℕ) : Type 0 where
    pub place : to ≤ length out'
    pub stops : stop ≡ true → Refused-at out' to
    pub goes : stop ≡ false → (p : Prepared ws steps count inputs outputs registers nr memories nm) (n : Now) → Holds ws p.ok memories k n values memory → Settled p n values' memory' out' to
    pub sized : stop ≡ false → Sized ws values' memory'

judged : {ws steps : List ℕ} {count : ℕ} {inputs outputs registers : List ℕ} {nr : ℕ} {memories : List ℕ} {nm k : ℕ} {values memory : List ℕ} → Standing ws steps count inputs outputs registers nr memories nm k values memory
    → (l : List ℕ) {n : ℕ} → n ≡ length inputs → {b : Bool} → b ≡ (length l ≢? n or having (λ b. b ≢? 48 and b ≢? 49) l) → b ≡ wrong_line ws l
unfolding wrong_line
judged x l en q = q ∙ ap (λ (i : ℕ). length l ≢? i or having (λ b. b ≢? 48 and b ≢? 49) l) (en ∙ ap length x.prepared.inputs_are)

module _ {ws steps : List ℕ} {count : ℕ} {inputs outputs registers : List ℕ} {nr : ℕ} {memories : List ℕ} {nm k : ℕ} {l out : List ℕ} {at : ℕ} {values memory : List ℕ}
    (x : Standing ws steps count inputs outputs registers nr memories nm k values memory) {n : ℕ} (en : n ≡ length inputs) {b : Bool} (q : b ≡ (length l ≢? n or having (λ b. b ≢? 48 and b ≢? 49) l)) where
  pub settles_wrong : b ≡ true → {to : ℕ} {stop : Bool} {out' : List ℕ} → Refuses 13 k 0 out at out' to stop → Settles ws steps count inputs outputs registers nr memories nm k l out at values memory to stop out' values memory
  settles_wrong t f = record {
    place = f.wrote.upto;
    stops = λ y. record { number = 13; place = 0; small = (omega arith, omega arith); wrote = f.wrote; says = λ p now holds. line_wrong ws k now l (sym (judged x l en q) ∙ t) };
    goes = λ y. untrue (sym y ∙ f.last);
    sized = λ y. untrue (sym y ∙ f.last);
  }

  module _ (t : b ≡ false) {clash : ℕ} {values' memory' : List ℕ} (a : Taken ws steps count inputs outputs registers nr memories nm k l values memory clash values' memory') where
    pub settles_clash : clash < 16 → {to : ℕ} {stop : Bool} {out' : List ℕ} → Refuses 14 k clash out at out' to stop → Settles ws steps count inputs outputs registers nr memories nm k l out at values memory to stop out' values' memory'
    settles_clash g f = record {
      place = f.wrote.upto;
      stops = λ y. record {
        number = 14;
        place = clash;
        small = (omega arith, omega arith);
        wrote = f.wrote;
        says = λ p now holds. (let e = a.clashes p now holds in line_clash ws k now l (sym (judged x l en q) ∙ t) (omega arith) ∙ ap (λ (c : ℕ). Stops (Refused 14 k c)) (sym e));
      };
      goes = λ y. untrue (sym y ∙ f.last);
      sized = λ y. untrue (sym y ∙ f.last);
    }

    pub settles : 16 ≤ clash → {to : ℕ} {stop : Bool} {out' : List ℕ} → Wrote out at (map (λ n. digit (on values' n)) outputs ++ (10 ∷ [])) out' to → stop ≡ false
        → Settles ws steps count inputs outputs registers nr memories nm k l out at values memory to stop out' values' memory'
    settles g w es = record {
      place = w.upto;
      stops = λ y. untrue (sym es ∙ y);
      goes = λ y p now holds. (
          let f = (a.after g).says p now holds in
          record {
            text = shown ws (setting_of ws l) (reached ws now (setting_of ws l));
            short = shown_length ws (setting_of ws l) (reached ws now (setting_of ws l));
            wrote = wrote_same (sym (shown_is p.ok f.1.0 p.outputs_are)) w;
            holds = f;
            says = line_goes ws k now l (sym (judged x l en q) ∙ t) (let e = a.clashes p now holds in omega arith);
          });
      sized = λ y. (a.after g).sized;
    }
