use Rattle.std.proofs.Common.{◌≡◌, take}
use Rattle.std.specs.List.{flat_map}
use Rattle.certify_core.specs.Replies.{reply_line}
use Rattle.certify_core.proofs.listing.reply.reply_lines.Given as goal

abbrev pub invariant-loop-reply : goal.invariant-loop-reply
invariant-loop-reply l = l.lines.items ≡ flat_map reply_line (take l.reply-index l.replies)
