use Rattle.std.proofs.Common.{◌≡◌, ◌++◌, drop, string_bytes}
use Rattle.std.specs.List.{flat_map}
use Rattle.handset.specs.Keeping.{messages_shown}
use Rattle.warnc_inspect.specs.PageOutput.{shown_line}
use Rattle.warnc_inspect.proofs.page.push_message_lines.Given as goal

abbrev pub invariant-loop-message : goal.invariant-loop-message
invariant-loop-message l =
    string_bytes l.output ++ flat_map shown_line (messages_shown (drop l.message-index l.shown))
    ≡ string_bytes l.fn.output ++ flat_map shown_line (messages_shown l.shown)
