-- What is known of a capture file where one of its pieces begins, and what a piece brings. A piece is a packet with its
-- header in the classic format, and a block in pcapng.
use Rattle.std.specs.Prelude.{List, Option}
use Rattle.gsmtap.specs.File.{Packet}
use Rattle.gsmtap.specs.declared.file.OctetOrder.{OctetOrder}
use Rattle.gsmtap.specs.declared.pieces.Format.{Format}
use Rattle.gsmtap.specs.declared.pieces.Interface.{Interface}

-- the format, the order of the numbers, and the interfaces that the section has described so far, from number 0 on. A
-- classic file is one section, and describes none: all its packets have the link type of the file
pub record Section : Type 0 where
  pub format : Format
  pub order : OctetOrder
  pub interfaces : List Interface

-- what is known after a piece, and the packet that it has, if it has one
pub record Meaning : Type 0 where
  pub section : Section
  pub packet : Option Packet
