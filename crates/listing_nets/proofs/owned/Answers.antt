-- `listing_nets::owned` meets its contract. Assumes nothing.
use Rattle.std.proofs.Common.{inl, inr, arith}
use Rattle.listing_nets.specs.Pieces.{above, port_kind, other_kind, cell_kind, no_cell_kind, owned_port, owned_constant, owned_register, owned_memory, owned_cell, owned_none}
use Rattle.listing_text.specs.Text.{wrote_none, wrote_more, wrote_same}
use Rattle.listing_nets.proofs.owned.Goals as goal

pub returns-in-0 : goal.returns-in-0
returns-in-0 c = wrote_same (owned_port _ _ _ _ (port_kind c.in-0.is)) c.signal_name.ensures

pub returns-in-1 : goal.returns-in-1
returns-in-1 c = wrote_same (owned_constant _ c.args.k _ _ (other_kind _ (λ e. omega arith) (λ e. omega arith)) c.in-1.is) c.put_number.ensures

pub returns-in-7 : goal.returns-in-7
returns-in-7 c = wrote_same (owned_register _ c.args.k _ _ (other_kind _ (λ e. omega arith) (λ e. omega arith)) (λ e. omega arith) c.in-7.is) c.register_name.ensures

pub returns-in-9 : goal.returns-in-9
returns-in-9 c =
    wrote_same (owned_memory _ c.args.k _ _ (other_kind _ (λ e. omega arith) (λ e. omega arith)) (λ e. omega arith) (λ e. omega arith) c.in-9.is) c.memory_name.ensures

pub returns-in-10 : goal.returns-in-10
returns-in-10 c =
    let no = c.in-10.in_default-own.rest in
    wrote_same
    (owned_cell _ c.args.k _ _ (other_kind _ (λ e. no.0.0.0.1 (inl e)) (λ e. no.0.0.0.1 (inr e))) no.0.0.1 no.0.1 no.1
    (cell_kind c.args.k (above c.in-10.if-k-lt7-own.false no.0.1 (λ e. no.0.0.0.1 (inr e)) no.1) (omega (arith, c.in-10.if-k-lt12-own.true))))
    (wrote_more c.put_number-p.ensures c.put_number-in-10.ensures)

pub returns-in_default : goal.returns-in_default
returns-in_default c =
    let no = c.in_default.in_default-own.rest in
    let low = c.in_default.if-k-lt7-own.true in
    wrote_same
    (owned_none _ c.args.k _ _ (other_kind _ (λ e. no.0.0.0.1 (inl e)) (λ e. no.0.0.0.1 (inr e))) no.0.0.1 no.0.1 no.1
    (no_cell_kind _ (λ e. omega (arith, low)) (λ e. omega (arith, low))))
    (wrote_none _ _ c.requires)

pub returns-in_default-2 : goal.returns-in_default-2
returns-in_default-2 c =
    let no = c.in_default.in_default-own.rest in
    let high = c.in_default.if-k-lt12-own.false in
    wrote_same
    (owned_none _ c.args.k _ _ (other_kind _ (λ e. no.0.0.0.1 (inl e)) (λ e. no.0.0.0.1 (inr e))) no.0.0.1 no.0.1 no.1
    (no_cell_kind _ (λ e. omega (arith, high)) (λ e. omega (arith, high))))
    (wrote_none _ _ c.requires)
