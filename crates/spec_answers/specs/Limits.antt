-- What a lowering comes to with the limits left out, and what the limits make of it. Assumes nothing.
use Rattle.std.specs.Prelude.{◌≡◌, List, ◌⊎◌, ℕ, ◌<◌, ◌≤◌, length}
use Rattle.spec_model.specs.Words.{Node, Netlist, used}
use Rattle.spec_model.specs.Builder.{Out, refused, done}

-- a netlist without its limits: the nodes and the list records
abbrev pub Content : Type 0
Content = List Node × List (List ℕ)

abbrev pub content : Netlist → Content
content l = (l.nodes, l.records)

abbrev pub netlist : ℕ → ℕ → Content → Netlist
netlist N P c = record { max_nets = N; max_list = P; nodes = c.0; records = c.1 }

-- a netlist with its limits replaced
abbrev pub limited : ℕ → ℕ → Netlist → Netlist
limited N P l = netlist N P (content l)

abbrev pub under : ℕ → ℕ → Out Content → Out Netlist
under N P (refused k x y) = refused k x y
under N P (done c) = done (netlist N P c)

-- with the limits left out the lowering comes to `end`, and has made `nets` nets and `words` list words by then, also where it ends in a
-- refusal. Under limits that are as large it comes to the same, under smaller ones it is refused 9 or 10, each where that limit is too small
pub record Freely (lower : ℕ → ℕ → Out Netlist) : Type 0 where
  pub end : Out Content
  pub nets : ℕ
  pub words : ℕ
  pub counted : (c : Content) → end ≡ done c → (nets ≡ length c.0) × (words ≡ used c.1)
  pub only : (k x y : ℕ) → end ≡ refused k x y → (k ≡ 9 → ⊥) × (k ≡ 10 → ⊥)
  pub enough : (N P : ℕ) → nets ≤ N → words ≤ P → lower N P ≡ under N P end
  pub few : (N P : ℕ) → N < nets → words ≤ P → lower N P ≡ refused 9 0 0
  pub short : (N P : ℕ) → nets ≤ N → P < words → lower N P ≡ refused 10 0 0
  pub both : (N P : ℕ) → N < nets → P < words → (lower N P ≡ refused 9 0 0) ⊎ (lower N P ≡ refused 10 0 0)
