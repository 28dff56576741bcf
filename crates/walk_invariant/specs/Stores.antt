-- What a change of netlist and index leaves of the walk's invariant. Assumes nothing.
use Rattle.std.specs.Prelude.{◌≡◌, List, ◌++◌, ℕ, ◌+◌, ◌*◌, ◌-◌, ◌≤◌, length, get_or, take, drop}
use Rattle.std.proofs.Common.{sym, ap, ◌∙◌, subst, arith, take_at, drop_at, length-take-le, get_or-drop}
use borrow.Rule.Slice.PartMut.{post_of, put_mid, same_len_mid, mid_len, take_put, drop_put}
use Rattle.spec_model.specs.Lowering.{with_netlist}
use Rattle.net_view.specs.View.{netlist_of}
use Rattle.net_index.specs.Index.{Held}
use Rattle.scratch_view.specs.View.{limit_of, expr_at, state_of, free}
use Rattle.scratch_view.specs.Frame.{Stays, index_stays}
use Rattle.walk_view.specs.View.{index_of, walk_state, Ready, Kept}

-- the index part was lent, and came back as idx beside the netlist words net'
module _ (s net w net' idx : List ℕ) (r : Ready s net w) (net-long : length net' ≡ length net) (held : Held (limit_of w) net' idx) where
  -- the end of the part, as the code has it
  abbrev end : ℕ
  end = 64 + 4 * limit_of w

  abbrev back : List ℕ
  back = put_mid 64 (end - 64) w idx

  sized : length idx ≡ end - 64
  sized = omega (arith, held.sized)

  room : end ≤ length w
  room = omega (arith, r.laid.long)

  pub lent_long : length back ≡ length w
  lent_long = same_len_mid 64 (end - 64) w idx (sized ∙ sym (mid_len 64 end w room))

  same_first : take 64 back ≡ take 64 w
  same_first = take_put 64 (end - 64) w idx (omega (arith, room))

  same_tables : drop end back ≡ drop end w
  same_tables = drop_put 64 end w idx (omega arith) room sized

  pub lent_stays : Stays s w back
  lent_stays = index_stays s w back r.laid lent_long same_first same_tables

  lent_index : index_of back ≡ idx
  lent_index =
      ap (λ (n : ℕ). take (4 * n) (drop 64 back)) lent_stays.limit
      ∙ ap (take (4 * limit_of w)) (drop_at (take 64 w) (idx ++ post_of 64 (end - 64) w) 64 (length-take-le 64 w (omega (arith, room))))
      ∙ take_at idx (post_of 64 (end - 64) w) (4 * limit_of w) held.sized

  -- a word of the tables
  same_word : (j : ℕ) → end ≤ j → get_or back j 0 ≡ get_or w j 0
  same_word j h =
      let m : j ≡ end + (j - end) = omega arith in
      ap (λ (k : ℕ). get_or back k 0) m ∙ sym (get_or-drop end back (j - end) 0) ∙ ap (λ (x : List ℕ). get_or x (j - end) 0) same_tables
      ∙ get_or-drop end w (j - end) 0 ∙ ap (λ (k : ℕ). get_or w k 0) (sym m)

  pub lent_ready : Ready s net' back
  lent_ready = record {
    accepted = r.accepted;
    laid = lent_stays.laid;
    held = subst (λ (n : ℕ). Held n net' (index_of back)) (sym lent_stays.limit) (subst (Held (limit_of w) net') (sym lent_index) held);
    narrowed = λ e u. rw lent_stays.limit (same_word (expr_at s (limit_of w) e 6) (omega arith) ∙ r.narrowed e u);
  }

  pub lent_kept : Kept s net w net' back
  lent_kept = record { net_long = net-long; long = lent_long; fixed = same_first; fewer = omega (arith, lent_stays.free) }

  pub lent_state : walk_state s net' back ≡ with_netlist (walk_state s net w) (netlist_of (limit_of w) net')
  lent_state = ap (λ (n : ℕ). state_of s (netlist_of n net') back) lent_stays.limit ∙ lent_stays.says (netlist_of (limit_of w) net')
