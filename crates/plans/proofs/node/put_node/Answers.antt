-- `plans::node::put_node` meets its contract.
use Rattle.std.proofs.Common.{sym, ◌∙◌, arith}
use Rattle.plans.proofs.Steps.{fits_open, put_made}
use Rattle.plans.proofs.node.put_node.Goals as goal

pub byte-s-requires : goal.byte-s-requires
byte-s-requires c = omega (arith, (fits_open _ _ (sym c.fits.ensures ∙ c.if-not-fits.false)).long)

pub byte-m-requires : goal.byte-m-requires
byte-m-requires c = omega (arith, (fits_open _ _ (sym c.fits.ensures ∙ c.if-not-fits.false)).long)

pub count-n-requires : goal.count-n-requires
count-n-requires c = omega (arith, (fits_open _ _ (sym c.fits.ensures ∙ c.if-not-fits.false)).long)

pub put_node-requires : goal.put_node-requires
put_node-requires c =
    let f = fits_open _ _ (sym c.fits.ensures ∙ c.if-not-fits.false) in
    (c.count-n.ensures.1, omega (arith, f.long, f.room, c.count-n.ensures.0), f.fields)

pub put_header-requires : goal.put_header-requires
put_header-requires c =
    let f = fits_open _ _ (sym c.fits.ensures ∙ c.if-not-fits.false) in
    (omega (arith, f.long), omega arith, c.byte-s.ensures.1, c.byte-m.ensures.1, omega arith, omega (arith, f.room, c.count-n.ensures.0))

pub returns : goal.returns
returns c =
    put_made (sym c.fits.ensures ∙ c.if-not-fits.false)
    c.byte-s.ensures.0 c.byte-m.ensures.0 c.count-n.ensures.0
    c.put_node.ensures c.put_header.ensures
