-- A capture has its header at least.
use Rattle.std.proofs.Common.{◌≡◌, ℕ, ◌+◌, ◌<◌, List, length, ap, ◌∙◌, refl, arith}
use Rattle.std.proofs.lemmas.List.{length-append}
use Rattle.gsmtap.specs.Capture.{IsCapture, file_header, packets_of_tapes}
use Rattle.gsmtap.specs.declared.capture.Settings.{Settings}

header_long : length file_header ≡ 24
unfolding file_header
header_long = refl

-- a capture is never empty: it has a header
pub some_capture : (settings : Settings) (input output : List ℕ) → IsCapture settings input output → 0 < length output
some_capture settings input output is =
    let whole : length output ≡ length file_header + length (packets_of_tapes settings 0 is.tapes) =
    ap length is.written ∙ length-append file_header (packets_of_tapes settings 0 is.tapes) in
    omega (arith, whole, header_long)
