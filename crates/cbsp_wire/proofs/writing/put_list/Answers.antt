use Rattle.std.proofs.Common.{sym, ◌∙◌, arith, ap, length, length-append}
use Rattle.cbsp_wire.proofs.ElementOctets.{list_octets, list_octets-len}
use Rattle.cbsp_wire.proofs.writing.put_list.Goals as goal

pub put_list_head-requires-clause-room : goal.put_list_head-requires-clause-room
put_list_head-requires-clause-room g c =
    rw (c.DISCRIMINATOR.ensures, c.SIZE.ensures) (omega (
      arith,
      list_octets-len g.T.ListItem.DISCRIMINATOR g.T.ListItem.octets_of g.T.ListItem.SIZE g.met.T.ListItem.sized
          c.args.element
          c.args.items.now (sym c.is_empty.ensures ∙ c.if-is_empty.false),
      c.requires.room,
    ))

pub put_items-requires : goal.put_items-requires
put_items-requires g c =
    let appended = rw (c.DISCRIMINATOR.ensures, c.SIZE.ensures) at c.put_list_head.ensures.appended in
    omega (
      arith,
      list_octets-len g.T.ListItem.DISCRIMINATOR g.T.ListItem.octets_of g.T.ListItem.SIZE g.met.T.ListItem.sized
          c.args.element
          c.args.items.now (sym c.is_empty.ensures ∙ c.if-is_empty.false),
      simp length-append at (ap length appended),
      c.put_list_head.ensures.room,
      c.requires.room,
    )

pub returns-clause-appended : goal.returns-clause-appended
returns-clause-appended g c =
    rw (c.put_items.ensures.appended, c.put_list_head.ensures.appended, c.SIZE.ensures, c.DISCRIMINATOR.ensures)
    (list_octets g.T.ListItem.DISCRIMINATOR g.T.ListItem.octets_of g.T.ListItem.SIZE g.met.T.ListItem.sized
    c.args.out.now.items c.args.element
    c.args.items.now (sym c.is_empty.ensures ∙ c.if-is_empty.false))
