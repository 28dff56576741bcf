-- Ports of a netlist whose port records are a module's signals in order: what is read from a line and what is printed, in the module's
-- own terms. Assumes nothing.
use Rattle.std.specs.Prelude.{ℕ, zero, suc, ◌+◌, ◌-◌, ◌<◌, ◌≡◌, Bool, drop}
use Rattle.std.proofs.Common.{not-suc-le-zero, sym, subst, ◌∙◌, length-append}
use native.Mathlib.Omega.{arith}
use Rattle.std.proofs.Math.Decide.{ℕ_discrete}
use Rattle.std.proofs.Math.Path.{refl, ap, fun_ext}
use Rattle.std.proofs.Math.Bool.{true, false}
use mathlib.Core.List.{List, [], ◌∷◌, ◌++◌, map, append-nil}
use Rattle.std.proofs.Math.ListN.{length, get_or, length-drop}
use Rattle.spec_rtl.specs.Rtl as R
use Rattle.spec_rtl.specs.Rtl.{Module, Sig, Dir, dir_of}
use Rattle.spec_tests.specs.Rules.{◌<?◌, ◌≡?◌, ◌≢?◌, ◌or◌, ◌and◌, pick, only, Fine}
use Rattle.spec_tests.specs.Laws.{no_ne, ne_yes, eq_yes, eq_no, yes_eq}
use Rattle.spec_rules.specs.NetlistImage.{node_word, records_of, records_with}
use Rattle.spec_rules.specs.Step.{Seen, is_output}
use Rattle.spec_rules.specs.Listing.{together}
use Rattle.spec_model.specs.Words.{Node, Netlist, gate, absent}
use Rattle.spec_model.specs.Builder.{node_for_net}
use Rattle.spec_netlist.specs.Accept.{nets, accepts}
use Rattle.spec_netlist.specs.Given.{Same}
use Rattle.spec_trace.specs.Opened.{ports_with, nets_with, having}
use Rattle.spec_trace.specs.Trace.{setting_by, setting_of, wrong_line}
use Rattle.law_nets.specs.Nodes.{only_append, node_at}
use Rattle.law_nets.specs.Meaning as Meaning
use Rattle.law_owners.specs.Ends.{All}
use Rattle.law_told.specs.Told.{untrue, and_second, pick_yes, pick_no, told}
use Rattle.law_told.specs.Ports.{PortTold}
use Rattle.law_trace.specs.Runs.{port_text, seen_text}
use Rattle.law_trace.specs.Shown.{Mem, this, that, mem_in, mem_only, port_at}
use Rattle.law_trace.specs.Signals.{is_input, signals_from, inputs, outputs, widths, setting_from, line_setting, wrong_for, signal_text, output_text}
use Rattle.law_trace.specs.Order.{port, Faces, Ordered, From, dir_at, from_next}

-- ---- lists ----

all_get : {A : Type 0} (P : A → Type 0) (xs : List A) → All P xs → (i : ℕ) (d : A) → i < length xs → P (get_or xs i d)
all_get P [] a i d h = absurd (not-suc-le-zero h)
all_get P (x ∷ xs) a zero d h = a.0
all_get P (x ∷ xs) a (suc i) d h = all_get P xs a.1 i d (omega arith)

-- those with a test that only looks at signal and width
only_map : (q : List ℕ → Bool) (g : ℕ × ℕ → Bool) (rs : List (List ℕ)) → ((r : List ℕ) → Mem r rs → q r ≡ g (port r)) → map port (only q rs) ≡ only g (map port rs)
unfolding only pick
only_map q g [] h = refl
only_map q g (r ∷ rs) h = at (q r) (g (port r)) (h r (this refl)) (only_map q g rs (λ x m. h x (that m)))
  where
    at : (a b : Bool) → a ≡ b → map port (only q rs) ≡ only g (map port rs) → map port (pick a (r ∷ only q rs) (only q rs)) ≡ pick b (port r ∷ only g (map port rs)) (only g (map port rs))
    at a b e ih = rw e (go b)
      where
        go : (b : Bool) → map port (pick b (r ∷ only q rs) (only q rs)) ≡ pick b (port r ∷ only g (map port rs)) (only g (map port rs))
        go true = ap (λ (z : List (ℕ × ℕ)). port r ∷ z) ih
        go false = ih

-- settings, texts and nets by signal and width
setting_at : (rs : List (List ℕ)) (l : List ℕ) (p i : ℕ) → setting_by rs l p i ≡ setting_from (map port rs) l p i
unfolding setting_by setting_from
setting_at [] l p i = refl
setting_at (r ∷ rs) l p i = ap (pick (get_or r 1 0 ≡? p and i <? get_or r 2 0) (get_or l i 0 ≡? 49)) (setting_at rs (drop (get_or r 2 0) l) p i)

texts_at : (x : Seen) (rs : List (List ℕ)) → together (map (port_text x) rs) ≡ together (map (signal_text x) (map port rs))
unfolding together port_text signal_text
texts_at x [] = refl
texts_at x (r ∷ rs) = ap (λ (t : List ℕ). port_text x r ++ t) (texts_at x rs)

nets_at : (rs : List (List ℕ)) → ((r : List ℕ) → Mem r rs → length (drop 3 r) ≡ get_or r 2 0) → length (together (map (drop 3) rs)) ≡ widths (map port rs)
unfolding together widths
nets_at [] h = refl
nets_at (r ∷ rs) h =
    length-append (drop 3 r) (together (map (drop 3) rs)) ∙ ap (λ (n : ℕ). n + length (together (map (drop 3) rs))) (h r (this refl))
    ∙ ap (λ (n : ℕ). get_or r 2 0 + n) (nets_at rs (λ x i. h x (that i)))

-- ---- signals by direction ----

not_output_law : (d : Dir) → is_input d ≡ true → is_output d ≡ false
not_output_law R.Internal e = refl
not_output_law R.Input e = refl
not_output_law R.Output e = untrue e

not_input : (d : Dir) → is_output d ≡ true → is_input d ≡ false
not_input R.Internal e = refl
not_input R.Input e = untrue e
not_input R.Output e = refl

-- a signal with its width has such a direction
abbrev faces : Module → (Dir → Bool) → ℕ × ℕ → Bool
faces m g k = g (dir_of m k.0)

module _ (m : Module) (f g : Dir → Bool) where
  one_kept : ((d : Dir) → f d ≡ true → g d ≡ true) → (d : Dir) (p w : ℕ) → dir_of m p ≡ d → only (faces m g) (pick (f d) ((p, w) ∷ []) []) ≡ pick (f d) ((p, w) ∷ []) []
  unfolding only pick
  one_kept h d p w e = at (f d) refl
    where
      at : (b : Bool) → f d ≡ b → only (faces m g) (pick b ((p, w) ∷ []) []) ≡ pick b ((p, w) ∷ []) []
      at true z = pick_yes (g (dir_of m p)) ((p, w) ∷ []) [] (ap g e ∙ h d z)
      at false z = refl

  kept : ((d : Dir) → f d ≡ true → g d ≡ true) → (p : ℕ) (xs : List Sig) → From m p xs → only (faces m g) (signals_from f p xs) ≡ signals_from f p xs
  unfolding signals_from only
  kept h p [] e = refl
  kept h p (x ∷ xs) e =
      only_append (faces m g) (pick (f x.dir) ((p, x.width) ∷ []) []) (signals_from f (suc p) xs)
      ∙ rw (one_kept h x.dir p x.width (dir_at m p x xs e), kept h (suc p) xs (from_next m p x xs e))

  one_dropped : ((d : Dir) → f d ≡ true → g d ≡ false) → (d : Dir) (p w : ℕ) → dir_of m p ≡ d → only (faces m g) (pick (f d) ((p, w) ∷ []) []) ≡ []
  unfolding only pick
  one_dropped h d p w e = at (f d) refl
    where
      at : (b : Bool) → f d ≡ b → only (faces m g) (pick b ((p, w) ∷ []) []) ≡ []
      at true z = pick_no (g (dir_of m p)) ((p, w) ∷ []) [] (ap g e ∙ h d z)
      at false z = refl

  dropped : ((d : Dir) → f d ≡ true → g d ≡ false) → (p : ℕ) (xs : List Sig) → From m p xs → only (faces m g) (signals_from f p xs) ≡ []
  unfolding signals_from only
  dropped h p [] e = refl
  dropped h p (x ∷ xs) e =
      only_append (faces m g) (pick (f x.dir) ((p, x.width) ∷ []) []) (signals_from f (suc p) xs)
      ∙ rw (one_dropped h x.dir p x.width (dir_at m p x xs e), dropped h (suc p) xs (from_next m p x xs e))

module _ (m : Module) where
  inputs_only : only (faces m is_input) (inputs m ++ outputs m) ≡ inputs m
  inputs_only =
      only_append (faces m is_input) (inputs m) (outputs m)
      ∙ rw (kept m is_input is_input (λ d e. e) 0 m.signals refl, dropped m is_output is_input not_input 0 m.signals refl) (append-nil (inputs m))

  outputs_only : only (faces m is_output) (inputs m ++ outputs m) ≡ outputs m
  outputs_only =
      only_append (faces m is_output) (inputs m) (outputs m)
      ∙ rw (dropped m is_input is_output not_output_law 0 m.signals refl, kept m is_output is_output (λ d e. e) 0 m.signals refl)

-- ---- ports by direction ----

module _ (ws : List ℕ) (ok : accepts ws ≡ Fine) (m : Module) (l : Netlist) (same : Same ws l) (o : Ordered m (inputs m ++ outputs m) l) where
  abbrev kind : List ℕ → ℕ
  kind r = node_word ws (get_or r 3 0) 0

  ports_are : map port (records_with 0 ws) ≡ inputs m ++ outputs m
  unfolding records_with Meaning.records_with
  ports_are = ap (λ (rs : List (List ℕ)). map port (only (λ r. get_or r 0 0 ≡? 0) rs)) same.records ∙ o.ports

  node_faces : (k : ℕ) → k < nets ws → Faces m (node_for_net l k)
  node_faces k h =
      let c = same.count in
      subst (Faces m) (sym (node_at l k (omega arith))) (all_get (Faces m) l.nodes o.nodes (length l.nodes - suc k) (gate absent absent absent absent) (omega arith))

  -- a port and what acceptance tells of it
  port_of_law : (r : List ℕ) → Mem r (records_with 0 ws) → (a : List (List ℕ)) × PortTold ws a r
  unfolding records_with
  port_of_law r i =
      let s = mem_only (λ r. get_or r 0 0 ≡? 0) r (records_of ws) i in
      let x = mem_in r (records_of ws) s.0 in
      (x.a, port_at ws (told ws ok) x.a r x.b x.is (yes_eq (get_or r 0 0) 0 s.1))

  port_faces : (r : List ℕ) → Mem r (records_with 0 ws) → ((kind r ≡? 0) ≡ is_input (dir_of m (get_or r 1 0))) × ((kind r ≡? 8) ≡ is_output (dir_of m (get_or r 1 0)))
  port_faces r i = go (ℕ_discrete (kind r) 0)
    where
      p : (a : List (List ℕ)) × PortTold ws a r
      p = port_of_law r i

      x : Node
      x = node_for_net l (get_or r 3 0)

      there : get_or r 3 0 < nets ws
      there = let s = p.1.some in (p.1.net 0 (omega arith)).there

      owner : x.owner ≡ get_or r 1 0
      owner = let s = p.1.some in sym (same.owner (get_or r 3 0) there) ∙ (p.1.net 0 (omega arith)).owner

      go : Dec (kind r ≡ 0) → ((kind r ≡? 0) ≡ is_input (dir_of m (get_or r 1 0))) × ((kind r ≡? 8) ≡ is_output (dir_of m (get_or r 1 0)))
      go (yes e) =
          let d : dir_of m (get_or r 1 0) ≡ R.Input = ap (dir_of m) (sym owner) ∙ (node_faces (get_or r 3 0) there).input (sym (same.kind (get_or r 3 0) there) ∙ e) in
          (eq_yes (kind r) 0 e ∙ ap is_input (sym d), eq_no (kind r) 8 (λ z. absurd (omega arith)) ∙ ap is_output (sym d))
      go (no e) =
          let k : kind r ≡ 8 = no_ne (kind r) 8 (and_second (kind r ≢? 0) (kind r ≢? 8) p.1.kind (ne_yes (kind r) 0 e)) in
          let d : dir_of m (get_or r 1 0) ≡ R.Output = ap (dir_of m) (sym owner) ∙ (node_faces (get_or r 3 0) there).output (sym (same.kind (get_or r 3 0) there) ∙ k) in
          (eq_no (kind r) 0 e ∙ ap is_input (sym d), eq_yes (kind r) 8 k ∙ ap is_output (sym d))

  pub inputs_are : map port (ports_with 0 ws) ≡ inputs m
  unfolding ports_with
  inputs_are =
      only_map (λ r. kind r ≡? 0) (faces m is_input) (records_with 0 ws) (λ r i. (port_faces r i).0) ∙ ap (only (faces m is_input)) ports_are ∙ inputs_only m

  pub outputs_are : map port (ports_with 8 ws) ≡ outputs m
  unfolding ports_with
  outputs_are =
      only_map (λ r. kind r ≡? 8) (faces m is_output) (records_with 0 ws) (λ r i. (port_faces r i).1) ∙ ap (only (faces m is_output)) ports_are ∙ outputs_only m

  -- ---- a line, and what is printed ----

  pub setting_is : (line : List ℕ) → setting_of ws line ≡ line_setting m line
  unfolding setting_of
  setting_is line = fun_ext (λ p. fun_ext (λ i. setting_at (ports_with 0 ws) line p i ∙ ap (λ (ps : List (ℕ × ℕ)). setting_from ps line p i) inputs_are))

  pub text_is : (x : Seen) → seen_text ws x ≡ output_text m x
  unfolding seen_text output_text
  text_is x = ap (λ (t : List ℕ). t ++ (10 ∷ [])) (texts_at x (ports_with 8 ws) ∙ ap (λ (ps : List (ℕ × ℕ)). together (map (signal_text x) ps)) outputs_are)

  input_length : length (nets_with 0 ws) ≡ widths (inputs m)
  unfolding nets_with ports_with
  input_length = nets_at (ports_with 0 ws) each_long ∙ ap widths inputs_are
    where
      each_long : (r : List ℕ) → Mem r (ports_with 0 ws) → length (drop 3 r) ≡ get_or r 2 0
      each_long r i =
          let p = port_of_law r (mem_only (λ r. kind r ≡? 0) r (records_with 0 ws) i).0 in
          let n = p.1.long in
          let d = length-drop 3 r in
          omega arith

  pub wrong_is : (line : List ℕ) → wrong_line ws line ≡ wrong_for m line
  unfolding wrong_line wrong_for
  wrong_is line = ap (λ (n : ℕ). length line ≢? n or having (λ b. b ≢? 48 and b ≢? 49) line) input_length
