use Rattle.std.proofs.Common.{◌≡◌, ℕ, List, ◌++◌, ◌∙◌, sym, ap, length, length-append, arith}
use Rattle.cbsp_wire.specs.WritingSteps.{HasRoomIn}
use Rattle.cbsp_wire.specs.Table.{octet_of_type}
use Rattle.cbsp_wire.proofs.Framing.{elements_octets, elements_len, cast_fits, fields_short, fields_fit, head_written}
use Rattle.cbsp_wire.proofs.writing.write_in.Goals as goal

pub put_elements-requires-clause-short : goal.put_elements-requires-clause-short
put_elements-requires-clause-short c = fields_short c.args.message.now _ c.fields_of-fields.ensures c.requires.meant

pub put_elements-requires-clause-room : goal.put_elements-requires-clause-room
put_elements-requires-clause-room c =
    let f = c.fields_of-fields.result in
    let fits = fields_fit c.args.message.now f c.fields_of-fields.ensures c.requires.meant in
    let room : HasRoomIn c.put.new.out (elements_octets f) =
    omega (arith, fits, simp length-append at (ap length c.put.ensures.appended)) in
    room

pub overflow_cast-length : goal.overflow_cast-length
overflow_cast-length c =
    let f = c.fields_of-fields.result in
    let n : c.len-start.result ≡ length c.args.out.now.items = omega arith in
    let l : c.len.result ≡ length c.put_elements.new.out.items = omega arith in
    let len = elements_len _ _ _ (elements_octets f) _ _ _ n l c.put.ensures.appended c.put_elements.ensures.appended in
    let fits = fields_fit c.args.message.now f c.fields_of-fields.ensures c.requires.meant in
    cast_fits _ _ len fits

pub returns-clause-appended : goal.returns-clause-appended
returns-clause-appended c =
    let f = c.fields_of-fields.result in
    let n : c.len-start.result ≡ length c.args.out.now.items = omega arith in
    let l : c.len.result ≡ length c.put_elements.new.out.items = omega arith in
    let len = elements_len _ _ _ (elements_octets f) _ _ _ n l c.put.ensures.appended c.put_elements.ensures.appended in
    head_written c.args.message.now f c.args.out.now.items c.put_elements.new.out.items c.to_octet.result
    c.len-start.result _
    c.fields_of-fields.ensures (c.to_octet.ensures ∙ ap octet_of_type c.type_of.ensures) (sym n)
    (c.put_elements.ensures.appended ∙ ap (λ (p : List ℕ). p ++ elements_octets f) c.put.ensures.appended) len
