-- The characters of a line and the input nets: character q is the value of net q of the input ports, and every input is among them.
-- Assumes nothing.
use Prim.Native.Nat.{ℕ, zero, suc, ◌+◌, ◌-◌, ◌≤◌, ◌<◌}
use Rattle.std.proofs.Common.{not-suc-le-zero, arith, ap, subst, ◌∙◌, length-drop, length-append, get_or-drop}
use Rattle.std.proofs.Math.Decide.{dec_lt}
use Rattle.std.specs.Prelude.{◌≡◌, Bool, length, drop}
use Rattle.std.proofs.Math.Path.{refl, sym}
use Rattle.std.proofs.Math.Bool.{true, false}
use mathlib.Core.List.{List, [], ◌∷◌, ◌++◌, map, append_assoc}
use Rattle.std.proofs.Math.ListN.{get_or, get_or-append}
use Rattle.spec_tests.specs.Rules.{◌<?◌, ◌≡?◌, ◌or◌, ◌and◌, pick, only, Fine}
use Rattle.spec_tests.specs.Laws.{eq_yes, eq_no, yes_eq, lt_yes, and_miss, pick_hit, pick_skip}
use Rattle.spec_rules.specs.NetlistImage.{node_word, records_of, records_with}
use Rattle.spec_rules.specs.Listing.{together}
use Rattle.spec_netlist.specs.Accept.{nets, belongs, accepts}
use Rattle.spec_trace.specs.Opened.{ports_with, nets_with, input_nets}
use Rattle.spec_trace.specs.Trace.{setting_by}
use Rattle.law_told.specs.Told.{untrue, both, pick_yes, pick_no, Told, told, Right}
use Rattle.law_told.proofs.Told.{records_right, owner}
use Rattle.law_told.specs.Ports.{PortTold, port_told, one_port}
use Rattle.law_sorts.specs.Found.{of_sort, has_word}
use Rattle.law_sorts.specs.Owners.{port_there, input_sort}

abbrev kinds : List ℕ → ℕ → List (List ℕ) → List (List ℕ)
kinds ws k rs = only (λ r. node_word ws (get_or r 3 0) 0 ≡? k) (of_sort 0 rs)

-- port records of input nodes, no two of one signal
pub record PortHere (ws : List ℕ) (r : List ℕ) : Type 0 where
  pub earlier : List (List ℕ)
  pub told : PortTold ws earlier r
  pub kind : node_word ws (get_or r 3 0) 0 ≡ 0

abbrev Apart : List ℕ → List (List ℕ) → Type 0
Apart r rs = (i : ℕ) → i < length rs → get_or (get_or rs i []) 1 0 ≡ get_or r 1 0 → ⊥

abbrev Ports : List ℕ → List (List ℕ) → Type 0
Ports ws [] = Unit {0}
Ports ws (r ∷ rs) = PortHere ws r × (Apart r rs × Ports ws rs)

-- ---- those of an accepted netlist ----

module _ (ws : List ℕ) (t : Told ws) where
  -- by one record more: of another sort or kind, or one of them
  by_record : (P : List (List ℕ) → Type 0) (x : List ℕ) (rs : List (List ℕ)) → P (kinds ws 0 rs) → (get_or x 0 0 ≡ 0 → node_word ws (get_or x 3 0) 0 ≡ 0 → P (x ∷ kinds ws 0 rs)) → P (kinds ws 0 (x ∷ rs))
  unfolding only pick
  by_record P x rs p f = go (get_or x 0 0 ≡? 0) refl
    where
      inner : (c : Bool) → (node_word ws (get_or x 3 0) 0 ≡? 0) ≡ c → get_or x 0 0 ≡ 0 → P (pick c (x ∷ kinds ws 0 rs) (kinds ws 0 rs))
      inner true e s = f s (yes_eq _ _ e)
      inner false e s = p

      go : (b : Bool) → (get_or x 0 0 ≡? 0) ≡ b → P (only (λ r. node_word ws (get_or r 3 0) 0 ≡? 0) (pick b (x ∷ of_sort 0 rs) (of_sort 0 rs)))
      go true e = inner (node_word ws (get_or x 3 0) 0 ≡? 0) refl (yes_eq _ _ e)
      go false e = p

  apart : (a : List (List ℕ)) (r : List ℕ) → PortTold ws a r → get_or r 0 0 ≡ 0 → node_word ws (get_or r 3 0) 0 ≡ 0 → (b rs : List (List ℕ)) → Right ws (a ++ (r ∷ b)) rs → Apart r (kinds ws 0 rs)
  unfolding only
  apart a r u s k b [] h = λ i l. absurd (not-suc-le-zero l)
  apart a r u s k b (x ∷ rs) h =
      by_record (λ z. Apart r z) x rs (apart a r u s k (b ++ (x ∷ [])) rs (subst (λ (z : List (List ℕ)). Right ws z rs) (append_assoc a (r ∷ b) (x ∷ [])) h.1))
      (λ sx kx. here sx kx (apart a r u s k (b ++ (x ∷ [])) rs (subst (λ (z : List (List ℕ)). Right ws z rs) (append_assoc a (r ∷ b) (x ∷ [])) h.1)))
    where
      here : get_or x 0 0 ≡ 0 → node_word ws (get_or x 3 0) 0 ≡ 0 → Apart r (kinds ws 0 rs) → Apart r (x ∷ kinds ws 0 rs)
      here sx kx ih zero l e = one_port ws t a (a ++ (r ∷ b)) a b r x u (port_told ws (a ++ (r ∷ b)) x h.0 (has_word h.0) sx) refl s (sym e) (k ∙ sym kx)
      here sx kx ih (suc i) l e = ih i (omega arith) e

  ports : (a rs : List (List ℕ)) → Right ws a rs → Ports ws (kinds ws 0 rs)
  unfolding only
  ports a [] h = tt
  ports a (x ∷ rs) h =
      by_record (λ z. Ports ws z) x rs (ports (a ++ (x ∷ [])) rs h.1) (λ sx kx.
      (let u = port_told ws a x h.0 (has_word h.0) sx in
      (record { earlier = a; told = u; kind = kx }, (apart a x u sx kx [] rs h.1, ports (a ++ (x ∷ [])) rs h.1))))

-- ---- a line ----

pub record Char (ws : List ℕ) (rs : List (List ℕ)) (l : List ℕ) (j q : ℕ) : Type 0 where
  pub there : j < nets ws
  pub kind : node_word ws j 0 ≡ 0
  pub is : setting_by rs l (node_word ws j 1) (node_word ws j 2) ≡ (get_or l q 0 ≡? 49)
  pub port : ℕ
  pub inside : port < length rs
  pub signal : get_or (get_or rs port []) 1 0 ≡ node_word ws j 1

nets_first : (r : List ℕ) (rs : List (List ℕ)) (q : ℕ) → q < length (drop 3 r) → get_or (together (map (drop 3) (r ∷ rs))) q 0 ≡ get_or r (3 + q) 0
unfolding together
nets_first r rs q h = get_or-append (drop 3 r) (together (map (drop 3) rs)) 0 q h ∙ get_or-drop 3 r q 0

nets_later : (r : List ℕ) (rs : List (List ℕ)) (q : ℕ) → length (drop 3 r) ≤ q → get_or (together (map (drop 3) (r ∷ rs))) q 0 ≡ get_or (together (map (drop 3) rs)) (q - length (drop 3 r)) 0
unfolding together
nets_later r rs q h = later (drop 3 r) (together (map (drop 3) rs)) q h
  where
    later : (xs ys : List ℕ) (q : ℕ) → length xs ≤ q → get_or (xs ++ ys) q 0 ≡ get_or ys (q - length xs) 0
    later [] ys q h = ap (λ (k : ℕ). get_or ys k 0) (let z : q ≡ q - 0 = omega arith in z)
    later (x ∷ xs) ys zero h = absurd (omega arith)
    later (x ∷ xs) ys (suc q) h = later xs ys q (omega arith) ∙ ap (λ (k : ℕ). get_or ys k 0) (let z : q - length xs ≡ suc q - suc (length xs) = omega arith in z)

chars : (ws : List ℕ) (rs : List (List ℕ)) → Ports ws rs → (l : List ℕ) (q : ℕ) → q < length (together (map (drop 3) rs)) → Char ws rs l (get_or (together (map (drop 3) rs)) q 0) q
unfolding together setting_by
chars ws [] p l q h = absurd (not-suc-le-zero h)
chars ws (r ∷ rs) p l q h = elim (dec_lt q (get_or r 2 0)) [
  | yes b ↦ first b
  | no b ↦ later (omega arith) (chars ws rs p.1.1 (drop (get_or r 2 0) l) (q - get_or r 2 0) (rest_long (omega arith)))
]
  where
    w : ℕ
    w = get_or r 2 0

    wide : length (drop 3 r) ≡ get_or r 2 0
    wide = let d = length-drop 3 r in let e = p.0.told.long in omega arith

    rest_long : get_or r 2 0 ≤ q → q - get_or r 2 0 < length (together (map (drop 3) rs))
    rest_long b = let d = wide in let e = length-append (drop 3 r) (together (map (drop 3) rs)) in omega arith

    first : q < get_or r 2 0 → Char ws (r ∷ rs) l (get_or (together (map (drop 3) (r ∷ rs))) q 0) q
    first b =
        let j = get_or r (3 + q) 0 in
        let o = p.0.told.net q b in
        let e = nets_first r rs q (let d = wide in omega arith) in
        subst (λ (k : ℕ). Char ws (r ∷ rs) l k q) (sym e) (record {
          there = o.there;
          kind = o.kind ∙ p.0.kind;
          is = ap (λ (k : ℕ). setting_by (r ∷ rs) l k (node_word ws j 2)) o.owner ∙ ap (setting_by (r ∷ rs) l (get_or r 1 0)) o.bit
              ∙ sym (pick_hit _ (both _ _ (eq_yes (get_or r 1 0) (get_or r 1 0) refl) (lt_yes q (get_or r 2 0) b)) refl);
          port = 0;
          inside = omega arith;
          signal = sym o.owner;
        })

    later : get_or r 2 0 ≤ q → Char ws rs (drop (get_or r 2 0) l) (get_or (together (map (drop 3) rs)) (q - get_or r 2 0) 0) (q - get_or r 2 0) → Char ws (r ∷ rs) l (get_or (together (map (drop 3) (r ∷ rs))) q 0) q
    later b c =
        let j = get_or (together (map (drop 3) rs)) (q - get_or r 2 0) 0 in
        let d = wide in
        let e : get_or (together (map (drop 3) (r ∷ rs))) q 0 ≡ j = nets_later r rs q (omega arith) ∙ ap (λ (k : ℕ). get_or (together (map (drop 3) rs)) (q - k) 0) d in
        let z : get_or r 2 0 + (q - get_or r 2 0) ≡ q = omega arith in
        subst (λ (k : ℕ). Char ws (r ∷ rs) l k q) (sym e) (record {
          there = c.there;
          kind = c.kind;
          is = sym (pick_skip _ (sym (and_miss _ (eq_no (get_or r 1 0) (node_word ws j 1) (λ f. p.1.0 c.port c.inside (c.signal ∙ sym f))))) refl) ∙ c.is
              ∙ ap (λ (k : ℕ). k ≡? 49) (get_or-drop (get_or r 2 0) l (q - get_or r 2 0) 0 ∙ ap (λ (k : ℕ). get_or l k 0) z);
          port = suc c.port;
          inside = (let i = c.inside in omega arith);
          signal = c.signal;
        })

-- ---- of an accepted netlist ----

pub input_char : (ws : List ℕ) → accepts ws ≡ Fine → (l : List ℕ) (q : ℕ) → q < length (input_nets ws) → Char ws (ports_with 0 ws) l (get_or (input_nets ws) q 0) q
unfolding nets_with ports_with records_with
input_char ws ok l q h = chars ws (kinds ws 0 (records_of ws)) (ports ws (told ws ok) [] (records_of ws) (records_right ws (told ws ok))) l q h

-- every input is one of them
record Among (ws : List ℕ) (j : ℕ) (xs : List ℕ) : Type 0 where
  pub at : ℕ
  pub inside : at < length xs
  pub is : get_or xs at 0 ≡ j

among_left : {ws : List ℕ} {j : ℕ} (xs ys : List ℕ) → Among ws j xs → Among ws j (xs ++ ys)
among_left xs ys a = record { at = a.at; inside = (let e = length-append xs ys in let i = a.inside in omega arith); is = get_or-append xs ys 0 a.at a.inside ∙ a.is }

among_right : {ws : List ℕ} {j : ℕ} (xs ys : List ℕ) → Among ws j ys → Among ws j (xs ++ ys)
among_right xs ys a = record {
  at = length xs + a.at;
  inside = (let e = length-append xs ys in let i = a.inside in omega arith);
  is = past xs a.at ∙ a.is;
}
  where
    past : (xs : List ℕ) (i : ℕ) → get_or (xs ++ ys) (length xs + i) 0 ≡ get_or ys i 0
    past [] i = ap (λ (k : ℕ). get_or ys k 0) (let z : 0 + i ≡ i = omega arith in z)
    past (x ∷ xs) i = ap (λ (k : ℕ). get_or (x ∷ (xs ++ ys)) k 0) (let z : suc (length xs) + i ≡ suc (length xs + i) = omega arith in z) ∙ past xs i

-- a record of input nodes among the records
reached : (ws : List ℕ) (j : ℕ) (a : List (List ℕ)) (r : List ℕ) (b : List (List ℕ)) → get_or r 0 0 ≡ 0 → node_word ws (get_or r 3 0) 0 ≡ 0 → (i : ℕ) → i < length (drop 3 r) → get_or (drop 3 r) i 0 ≡ j
    → Among ws j (together (map (drop 3) (kinds ws 0 (a ++ (r ∷ b)))))
unfolding only together
reached ws j [] r b s k i h e =
    let f : kinds ws 0 (r ∷ b) ≡ r ∷ kinds ws 0 b =
    ap (only (λ r. node_word ws (get_or r 3 0) 0 ≡? 0)) (pick_yes (get_or r 0 0 ≡? 0) (r ∷ of_sort 0 b) (of_sort 0 b) (eq_yes _ _ s)) ∙ pick_yes (node_word ws (get_or r 3 0) 0 ≡? 0) (r ∷ kinds ws 0 b) (kinds ws 0 b) (eq_yes _ _ k) in
    subst (λ (z : List (List ℕ)). Among ws j (together (map (drop 3) z))) (sym f) (among_left (drop 3 r) (together (map (drop 3) (kinds ws 0 b))) (record { at = i; inside = h; is = e }))
reached ws j (x ∷ a) r b s k i h e = go (get_or x 0 0 ≡? 0) (node_word ws (get_or x 3 0) 0 ≡? 0) (reached ws j a r b s k i h e)
  where
    rest : List (List ℕ)
    rest = kinds ws 0 (a ++ (r ∷ b))

    two : (c : Bool) → Among ws j (together (map (drop 3) rest)) → Among ws j (together (map (drop 3) (pick c (x ∷ rest) rest)))
    two true ih = subst (λ (z : List (List ℕ)). Among ws j (together (map (drop 3) z))) (sym (pick_yes true (x ∷ rest) rest refl)) (among_right (drop 3 x) (together (map (drop 3) rest)) ih)
    two false ih = subst (λ (z : List (List ℕ)). Among ws j (together (map (drop 3) z))) (sym (pick_no false (x ∷ rest) rest refl)) ih

    go : (c d : Bool) → Among ws j (together (map (drop 3) rest)) → Among ws j (together (map (drop 3) (only (λ r. node_word ws (get_or r 3 0) 0 ≡? 0) (pick c (x ∷ of_sort 0 (a ++ (r ∷ b))) (of_sort 0 (a ++ (r ∷ b)))))))
    go true d ih = subst (λ (z : List (List ℕ)). Among ws j (together (map (drop 3) (only (λ r. node_word ws (get_or r 3 0) 0 ≡? 0) z)))) (sym (pick_yes true (x ∷ of_sort 0 (a ++ (r ∷ b))) (of_sort 0 (a ++ (r ∷ b))) refl))
        (two (node_word ws (get_or x 3 0) 0 ≡? 0) ih)
    go false d ih = subst (λ (z : List (List ℕ)). Among ws j (together (map (drop 3) (only (λ r. node_word ws (get_or r 3 0) 0 ≡? 0) z)))) (sym (pick_no false (x ∷ of_sort 0 (a ++ (r ∷ b))) (of_sort 0 (a ++ (r ∷ b))) refl)) ih

pub record InputAt (ws : List ℕ) (j : ℕ) : Type 0 where
  pub at : ℕ
  pub inside : at < length (input_nets ws)
  pub is : get_or (input_nets ws) at 0 ≡ j

pub input_at_law : (ws : List ℕ) → accepts ws ≡ Fine → (j : ℕ) → j < nets ws → node_word ws j 0 ≡ 0 → InputAt ws j
unfolding nets_with ports_with records_with belongs ◌or◌
input_at_law ws ok j h k =
    let t = told ws ok in
    let o = owner ws t j h (ap (λ (z : ℕ). z ≡? 0 or 6 <? z) k ∙ first (0 ≡? 0) (eq_yes 0 0 refl)) in
    let s = input_sort ws j o k in
    let p = port_told ws o.earlier o.r o.here (has_word o.here) s in
    let i = port_there ws j o s in
    let n = i.narrow in
    let q = p.net i.at n in
    let e = i.is in
    let f : node_word ws (get_or o.r 3 0) 0 ≡ 0 = sym q.kind ∙ ap (λ (z : ℕ). node_word ws z 0) e ∙ k in
    let d = length-drop 3 o.r in
    let l = p.long in
    let a = reached ws j o.earlier o.r o.later s f i.at (omega arith) (get_or-drop 3 o.r i.at 0 ∙ e) in
    let b = subst (λ (z : List (List ℕ)). Among ws j (together (map (drop 3) (kinds ws 0 z)))) (sym o.place) a in
    record { at = b.at; inside = b.inside; is = b.is }
  where
    first : (b : Bool) → b ≡ true → (b or 6 <? 0) ≡ true
    first true e = refl
    first false e = untrue e

-- the nets of ports, of any kind, are nets
net_among : (ws : List ℕ) (t : Told ws) (k : ℕ) (a rs : List (List ℕ)) → Right ws a rs → (q : ℕ) → q < length (together (map (drop 3) (kinds ws k rs))) → get_or (together (map (drop 3) (kinds ws k rs))) q 0 < nets ws
unfolding only together
net_among ws t k a [] h = λ q l. absurd (not-suc-le-zero l)
net_among ws t k a (x ∷ rs) h = go (get_or x 0 0 ≡? 0) refl (net_among ws t k (a ++ (x ∷ [])) rs h.1)
  where
    In : List (List ℕ) → Type 0
    In z = (q : ℕ) → q < length (together (map (drop 3) z)) → get_or (together (map (drop 3) z)) q 0 < nets ws

    here : get_or x 0 0 ≡ 0 → In (kinds ws k rs) → In (x ∷ kinds ws k rs)
    here s ih q l = elim (dec_lt q (length (drop 3 x))) [
      | yes b ↦ (
          let p = port_told ws a x h.0 (has_word h.0) s in
          let d = length-drop 3 x in
          let n = p.long in
          let o = (p.net q (omega arith)).there in
          let e = nets_first x (kinds ws k rs) q b in
          omega arith)
      | no b ↦ (
          let e = nets_later x (kinds ws k rs) q (omega arith) in
          let n = length-append (drop 3 x) (together (map (drop 3) (kinds ws k rs))) in
          let i = ih (q - length (drop 3 x)) (omega arith) in
          omega arith)
    ]

    two : (c : Bool) → get_or x 0 0 ≡ 0 → In (kinds ws k rs) → In (pick c (x ∷ kinds ws k rs) (kinds ws k rs))
    two true s ih = subst In (sym (pick_yes true (x ∷ kinds ws k rs) (kinds ws k rs) refl)) (here s ih)
    two false s ih = subst In (sym (pick_no false (x ∷ kinds ws k rs) (kinds ws k rs) refl)) ih

    go : (b : Bool) → (get_or x 0 0 ≡? 0) ≡ b → In (kinds ws k rs) → In (only (λ r. node_word ws (get_or r 3 0) 0 ≡? k) (pick b (x ∷ of_sort 0 rs) (of_sort 0 rs)))
    go true e ih = subst (λ (z : List (List ℕ)). In (only (λ r. node_word ws (get_or r 3 0) 0 ≡? k) z)) (sym (pick_yes true (x ∷ of_sort 0 rs) (of_sort 0 rs) refl)) (two (node_word ws (get_or x 3 0) 0 ≡? k) (yes_eq _ _ e) ih)
    go false e ih = subst (λ (z : List (List ℕ)). In (only (λ r. node_word ws (get_or r 3 0) 0 ≡? k) z)) (sym (pick_no false (x ∷ of_sort 0 rs) (of_sort 0 rs) refl)) ih

pub port_net : (ws : List ℕ) → accepts ws ≡ Fine → (k q : ℕ) → q < length (nets_with k ws) → get_or (nets_with k ws) q 0 < nets ws
unfolding nets_with ports_with records_with
port_net ws ok k q h = net_among ws (told ws ok) k [] (records_of ws) (records_right ws (told ws ok)) q h
