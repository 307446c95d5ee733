use Rattle.std.proofs.Common.{◌≡◌, [], ◌∷◌, ◌++◌, find, string_bytes, encode_utf8_all}
use Rattle.std.specs.Option.{option_map_or}
use Rattle.std.specs.List.{flat_map, range_with_len}
use Rattle.cbs_page.specs.Text.{text_of_page}
use Rattle.handset.specs.Reception.{name_of}
use Rattle.handset.specs.Keeping.{is_numbered}
use Rattle.handset.proofs.messages.text.Given as goal

abbrev pub invariant-loop-before : goal.invariant-loop-before
invariant-loop-before l =
    string_bytes l.text
    ≡ encode_utf8_all
    (flat_map (λ number. option_map_or text_of_page
    (find (is_numbered (name_of l.last) number) (l.pages ++ l.last ∷ [])) []) (range_with_len 1 l.before))
