use Rattle.std.proofs.Common.{◌≡◌, ◌++◌, take}
use Rattle.std.specs.List.{flat_map}
use Rattle.cbsp_link.specs.Written.{page_element}
use Rattle.cbsp_link.proofs.writing.put_pages.Given as goal

abbrev pub invariant-loop-content : goal.invariant-loop-content
invariant-loop-content l = l.out.items ≡ l.fn.out.items ++ flat_map page_element (take l.content-index l.contents)
