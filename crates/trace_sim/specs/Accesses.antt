-- What a memory port's access reads on words is what the step rule reads on nets. Assumes nothing.
use Rattle.std.specs.Prelude.{ℕ, suc, ◌+◌, ◌-◌, ◌≤◌, ◌<◌, ◌≡◌, refl, Bool, List, [], ◌∷◌, map, length, take, drop}
use native.Mathlib.Omega.{arith}
use Rattle.std.proofs.Math.Path.{ap}
use Rattle.std.proofs.Common.{◌∙◌, length-take, length-drop, get_or-take, get_or-drop}
use Rattle.std.proofs.Math.Bool.{not}
use Rattle.std.proofs.Math.ListN.{get_or}
use Rattle.spec_rtl.specs.Word.{value}
use Rattle.spec_rtl.specs.Ops.{xor_b}
use Rattle.spec_tests.specs.Rules.{◌≡?◌, Fine}
use Rattle.spec_rules.specs.Image.{control_of}
use Rattle.spec_rules.specs.NetlistImage.{node_word, port_lists, memory_port_of, netlist}
use Rattle.spec_rules.specs.Step.{Setting, Contents, edge, net, net_access}
use Rattle.spec_netlist.specs.Accept.{nets, accepts}
use Rattle.law_sorts.specs.Memories.{MemoryPortTold, own_length}
use Rattle.law_sorts.specs.Cut.{lists_are}
use Rattle.trace_pass.specs.Plan.{Valued}
use Rattle.trace_pass.specs.Steps.{size_is}
use Rattle.trace_step.specs.Words.{on}
use Rattle.trace_sim.specs.Registers.{enabled_same, Inputs, on_old, on_new}

map_nets : (f g : ℕ → Bool) (xs : List ℕ) → ((i : ℕ) → i < length xs → f (get_or xs i 0) ≡ g (get_or xs i 0)) → map f xs ≡ map g xs
map_nets f g [] h = refl
map_nets f g (x ∷ xs) h = ap (λ (b : Bool). b ∷ map f xs) (h 0 (omega arith)) ∙ ap (λ (l : List Bool). g x ∷ l) (map_nets f g xs (λ i l. h (suc i) (omega arith)))

-- a stretch of a port's words
stretch_length : (p : List ℕ) (a w : ℕ) → a + w ≤ length p → length (take w (drop a p)) ≡ w
stretch_length p a w h = let x = length-take w (drop a p) in let y = length-drop a p in omega arith

stretch_at : (p : List ℕ) (a w i : ℕ) → i < w → get_or (take w (drop a p)) i 0 ≡ get_or p (a + i) 0
stretch_at p a w i l = get_or-take w (drop a p) i 0 l ∙ get_or-drop a p i 0

module _ {ws : List ℕ} {earlier : List (List ℕ)} {k w base : ℕ} {p : List ℕ} (u : MemoryPortTold ws earlier k w base p) where
  room : 10 + (get_or p 0 0 + get_or p 1 0 + get_or p 2 0 + get_or p 3 0) ≤ length p
  room = let l = u.long in let n = own_length p in let s = lists_are p in omega arith

  pub data_length : length (memory_port_of p).read_data ≡ w
  unfolding memory_port_of
  data_length = stretch_length p (4 + get_or p 0 0) (get_or p 1 0) (let r = room in omega arith) ∙ u.wide

  pub data_at_law : (i : ℕ) → i < w → get_or (memory_port_of p).read_data i 0 ≡ get_or p (4 + get_or p 0 0 + i) 0
  unfolding memory_port_of
  data_at_law i h = stretch_at p (4 + get_or p 0 0) (get_or p 1 0) i (let e = u.wide in omega arith)

  pub written_length : length (memory_port_of p).write_data ≡ w
  unfolding memory_port_of
  written_length = stretch_length p (4 + get_or p 0 0 + get_or p 1 0 + get_or p 2 0) (get_or p 3 0) (let r = room in omega arith) ∙ u.data_wide

  pub data_inside : (i : ℕ) → i < length (memory_port_of p).read_data → get_or (memory_port_of p).read_data i 0 < nets ws
  data_inside i h = let e = data_length in let f = data_at_law i (omega arith) in let o = (u.read_data i (omega arith)).there in omega arith

  module _ (ok : accepts ws ≡ Fine) (s t : Setting) (c : Contents) {v n : List ℕ} (x : Valued ws s c v) (y : Inputs ws ok s t c n) where
    abbrev g : ℕ → Bool
    g = net (netlist ws) s c

    abbrev h : ℕ → Bool
    h = net (netlist ws) t c

    old : (j : ℕ) → j < nets ws → on v j ≡ g j
    old j l = on_old ws ok s t c x j (let z = size_is ws in omega arith)

    pub ticks_same : node_word ws (memory_port_of p).clock 0 ≡ 0 → (net_access (on v) (on n) (memory_port_of p)).ticks ≡ (net_access g h (memory_port_of p)).ticks
    unfolding memory_port_of
    ticks_same e =
        let l = u.clock in
        ap (λ (b : Bool). edge (get_or p (4 + port_lists p + 5) 0 ≡? 0) b (on n (get_or p (4 + port_lists p + 4) 0))) (old (get_or p (4 + port_lists p + 4) 0) l)
        ∙ ap (edge (get_or p (4 + port_lists p + 5) 0 ≡? 0) (g (get_or p (4 + port_lists p + 4) 0))) (on_new ws ok s t c y (get_or p (4 + port_lists p + 4) 0) (let z = size_is ws in omega arith) e)

    pub reads_same : (net_access (on v) (on n) (memory_port_of p)).reads ≡ (net_access g h (memory_port_of p)).reads
    unfolding memory_port_of
    reads_same = enabled_same (on v) g (get_or p (4 + port_lists p) 0) (get_or p (4 + port_lists p + 1) 0) (λ q. old (get_or p (4 + port_lists p) 0) (u.read_enable q))

    pub writes_same : (net_access (on v) (on n) (memory_port_of p)).writes ≡ (net_access g h (memory_port_of p)).writes
    unfolding memory_port_of control_of
    writes_same = ap (λ (b : Bool). not (xor_b (get_or p (4 + port_lists p + 3) 0 ≡? 0) b)) (old (get_or p (4 + port_lists p + 2) 0) u.write_enable)

    pub read_at_same : (net_access (on v) (on n) (memory_port_of p)).read_at_of ≡ (net_access g h (memory_port_of p)).read_at_of
    unfolding memory_port_of
    read_at_same = ap value (map_nets (on v) g (take (get_or p 0 0) (drop 4 p)) (λ i l.
        (let r = room in
        let e = stretch_length p 4 (get_or p 0 0) (omega arith) in
        let f = stretch_at p 4 (get_or p 0 0) i (omega arith) in
        let b = u.read_net i (omega arith) in
        old (get_or (take (get_or p 0 0) (drop 4 p)) i 0) (omega arith))))

    pub write_at_same : (net_access (on v) (on n) (memory_port_of p)).write_at ≡ (net_access g h (memory_port_of p)).write_at
    unfolding memory_port_of
    write_at_same = ap value (map_nets (on v) g (take (get_or p 2 0) (drop (4 + get_or p 0 0 + get_or p 1 0) p)) (λ i l.
        (let r = room in
        let e = stretch_length p (4 + get_or p 0 0 + get_or p 1 0) (get_or p 2 0) (omega arith) in
        let f = stretch_at p (4 + get_or p 0 0 + get_or p 1 0) (get_or p 2 0) i (omega arith) in
        let b = u.write_net i (omega arith) in
        old (get_or (take (get_or p 2 0) (drop (4 + get_or p 0 0 + get_or p 1 0) p)) i 0) (omega arith))))

    pub written_same : map (on v) (memory_port_of p).write_data ≡ map g (memory_port_of p).write_data
    unfolding memory_port_of
    written_same = map_nets (on v) g (take (get_or p 3 0) (drop (4 + get_or p 0 0 + get_or p 1 0 + get_or p 2 0) p)) (λ i l.
        (let r = room in
        let e = stretch_length p (4 + get_or p 0 0 + get_or p 1 0 + get_or p 2 0) (get_or p 3 0) (omega arith) in
        let f = stretch_at p (4 + get_or p 0 0 + get_or p 1 0 + get_or p 2 0) (get_or p 3 0) i (omega arith) in
        let q : 4 + get_or p 0 0 + get_or p 1 0 + get_or p 2 0 + i ≡ 4 + get_or p 0 0 + get_or p 1 0 + (get_or p 2 0 + i) = omega arith in
        let d : get_or p (4 + get_or p 0 0 + get_or p 1 0 + get_or p 2 0 + i) 0 ≡ get_or p (4 + get_or p 0 0 + get_or p 1 0 + (get_or p 2 0 + i)) 0 = ap (λ (k : ℕ). get_or p k 0) q in
        let b = u.write_net (get_or p 2 0 + i) (omega arith) in
        old (get_or (take (get_or p 3 0) (drop (4 + get_or p 0 0 + get_or p 1 0 + get_or p 2 0) p)) i 0) (omega arith)))
