-- A settings line of the trace program, and its lines one after the other (docs/RULES.md, change requests Q-4 and Q-6). Assumes nothing.
use Rattle.std.specs.Prelude.{ℕ, suc, Bool, true, false, List, [], ◌∷◌, ◌++◌, map, length, drop, get_or}
use Rattle.spec_rtl.specs.Table.{build}
use Rattle.spec_tests.specs.Rules.{◌<?◌, ◌≡?◌, ◌≢?◌, ◌or◌, ◌and◌, pick, Answer, Fine, Refused}
use Rattle.spec_rules.specs.NetlistImage.{Netlist, netlist}
use Rattle.spec_rules.specs.Step.{Setting, Contents, act, clashing, node_value, of_netlist}
use Rattle.spec_rules.specs.Listing.{text, decimal, line}
use Rattle.spec_trace.specs.Opened.{having, ports_with, input_nets, output_nets}

-- ---- a line ----

-- the input ports' bits from a line's characters
unfoldable pub setting_by : List (List ℕ) → List ℕ → Setting
setting_by [] l p i = false
setting_by (r ∷ rs) l p i =
    let later = setting_by rs (drop (get_or r 2 0) l) p i in
    pick (get_or r 1 0 ≡? p and i <? get_or r 2 0) (get_or l i 0 ≡? 49) later

unfoldable pub setting_of : List ℕ → List ℕ → Setting
setting_of ws l = setting_by (ports_with 0 ws) l

-- "a line of another length or letter"
unfoldable pub wrong_line : List ℕ → List ℕ → Bool
wrong_line ws l = length l ≢? length (input_nets ws) or having (λ b. b ≢? 48 and b ≢? 49) l

-- "After each line it prints the output bits in the same manner."
unfoldable pub digit : Bool → ℕ
digit true = 49
digit false = 48

-- all nets' values: entry k is `net n s c k`
abbrev pub values : Netlist → Setting → Contents → List Bool
values n s c = build false (node_value n s c) [] n.nodes

unfoldable pub shown : List ℕ → Setting → Contents → List ℕ
shown ws s c = let v = values (netlist ws) s c in map (λ k. digit (get_or v k false)) (output_nets ws) ++ (10 ∷ [])

-- before the first line, or the settings and contents after one
pub data Now : Type 0 where
  Before : Now
  At : Setting → Contents → Now

-- "Registers, read data and memories start at 0."
abbrev pub zeroed : Contents
zeroed = record { reg = λ k i. false; dat = λ k second i. false; mem = λ k at i. false }

-- "The first line gives the settings at the start and makes no step." "The printed bits are those of document 01's step rule"
unfoldable pub reached : List ℕ → Now → Setting → Contents
reached ws Before t = zeroed
reached ws (At s c) t = act ((of_netlist (netlist ws)).reads s c t) c

-- Q-6: the lowest memory with a write clash in the line's step; 16 where there is none
unfoldable pub clash_at : List ℕ → Now → Setting → ℕ
clash_at ws Before t = 16
clash_at ws (At s c) t = clashing ((of_netlist (netlist ws)).reads s c t)

-- what a line comes to: what is printed and what then holds, or a refusal
pub data After (S : Type 0) : Type 0 where
  Goes : List ℕ → S → After S
  Stops : Answer → After S

-- line k: "13, a line of another length or letter, place its number, counted from 0"; "14, a write clash, place line and the lowest such
-- memory, after the line's own check by 13 and before its outputs are printed"
unfoldable pub settings_line : List ℕ → ℕ → Now → List ℕ → After Now
settings_line ws k now l =
    let t = setting_of ws l in
    let c = reached ws now t in
    let goes = Goes (shown ws t c) (At t c) in
    let x = clash_at ws now t in
    let ends = pick (x <? 16) (Stops (Refused 14 k x)) goes in
    pick (wrong_line ws l) (Stops (Refused 13 k 0)) ends

-- ---- the lines ----

-- the trace cut at each byte 10; what follows the last one stands last
unfoldable pub before : ℕ → List (List ℕ) → List (List ℕ)
before b [] = (b ∷ []) ∷ []
before b (l ∷ ls) = (b ∷ l) ∷ ls

unfoldable pub pieces : List ℕ → List (List ℕ)
pieces [] = [] ∷ []
pieces (b ∷ bs) = pick (b ≡? 10) ([] ∷ pieces bs) (before b (pieces bs))

-- "a refusal prints as in the listing program"
unfoldable pub said : Answer → List ℕ
said Fine = []
said (Refused n a b) = line (text "refused" ∷ decimal n ∷ decimal a ∷ decimal b ∷ [])

-- "earlier lines having been printed"
unfoldable pub continued : {S : Type 0} → (S → List ℕ) → After S → List ℕ
continued more (Goes printed s) = printed ++ more s
continued more (Stops a) = said a

-- the text from line k on, where f says what a line comes to. "Each line ends with byte 10; one that does not is refused under 13." "for
-- traces of up to 4,294,967,295 lines; one line more is refused under 13"
unfoldable pub traced : {S : Type 0} → (ℕ → S → List ℕ → After S) → ℕ → S → List (List ℕ) → List ℕ
traced f k s [] = []
traced f k s (l ∷ []) = pick (length l ≡? 0) [] (said (Refused 13 k 0))
traced f k s (l ∷ m ∷ ls) =
    let text = continued (λ s'. traced f (suc k) s' (m ∷ ls)) (f k s l) in
    pick (k <? 4294967295) text (said (Refused 13 k 0))
