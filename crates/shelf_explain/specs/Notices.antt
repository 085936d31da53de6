-- Notices to the user of a certificate (RFC 5280, 4.2.1.4).
use Rattle.std.specs.Prelude.{ℕ, List, [], ◌++◌, codes, Option, Some, None}
use Rattle.std.specs.List.{join_by}
use Rattle.std.specs.Str.{chars}
use Rattle.asn1_core.specs.StringTypes.{pairs}
use Rattle.pkix_trust.specs.declared.notice.DisplayText.{DisplayText}
use Rattle.pkix_trust.specs.declared.notice.DisplayText.TheVariants.{Ia5String, VisibleString, BmpString, Utf8String}
use Rattle.pkix_trust.specs.declared.notice.NoticeReference.{NoticeReference}
use Rattle.pkix_trust.specs.declared.notice.UserNotice.{UserNotice}
use Rattle.shelf_explain.specs.Lines.{labelled}
use Rattle.shelf_explain.specs.Numbers.{integer_text}
use Rattle.shelf_explain.specs.Values.{plain_text}

unfoldable pub display_text : DisplayText → List ℕ
display_text (Ia5String contents) = plain_text contents
display_text (VisibleString contents) = plain_text contents
display_text (BmpString contents) = plain_text (pairs contents)
display_text (Utf8String contents) = plain_text (chars contents)

unfoldable pub reference_text : NoticeReference → List ℕ
reference_text r = display_text r.organisation ++ codes " number " ++ join_by integer_text (codes ", ") r.notice_numbers

unfoldable pub some_reference : Option NoticeReference → List ℕ
some_reference None = []
some_reference (Some r) = labelled (codes " of ") (reference_text r)

unfoldable pub some_text : Option DisplayText → List ℕ
some_text None = []
some_text (Some text) = labelled (codes ": ") (display_text text)

-- whose texts are meant, and a text
unfoldable pub notice_text : UserNotice → List ℕ
notice_text n = some_reference n.notice_ref ++ some_text n.explicit_text
