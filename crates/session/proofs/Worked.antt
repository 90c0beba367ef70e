-- Lines spelled out: the replies to hello and to a creation, a document, deltas, subscriptions, news, and a refusal.
use Rattle.std.specs.Prelude.{◌≡◌, codes, true, [], ◌∷◌}
use Rattle.std.proofs.Common.{refl}
use Rattle.std.specs.Fmt.{digits}
use Rattle.serde_json.proofs.OnLiterals.{serde_json_on_literals}
use Rattle.refusal.specs.declared.Refusal.TheVariants.{Exists}
use Rattle.session.specs.declared.reply.Reply.TheVariants.{Taken, Again}
use Rattle.std.specs.Char.{encode_utf8}
use Rattle.std.specs.Char.Utf16.{utf16_chars}
use Rattle.attributes.specs.Map.{empty, insert}
use Rattle.attributes.specs.Scalar.{flag_scalar}
use Rattle.delta.specs.Operation.{insert_text, retain}
use Rattle.session.specs.Reply.{greeting, acknowledgement, printed_delta, document_with, since_reply, subscribed_reply, unsubscribed_reply, news_line, ended_line, line_of, refusal_line}

pub hello : line_of greeting ≡ codes "{\"ok\":\"hello\"}\n"
unfolding serde_json_on_literals digits
hello = refl

pub taken : line_of (acknowledgement (codes "d") 1 (Taken 1)) ≡ codes "{\"doc\":\"d\",\"n\":1,\"ok\":\"taken\",\"rev\":1}\n"
unfolding serde_json_on_literals digits
taken = refl

pub again : line_of (acknowledgement (codes "d") 1 (Again 1)) ≡ codes "{\"doc\":\"d\",\"n\":1,\"ok\":\"again\",\"rev\":1}\n"
unfolding serde_json_on_literals digits
again = refl

pub exists : refusal_line Exists ≡ codes "{\"code\":7,\"error\":\"Exists\"}\n"
unfolding serde_json_on_literals digits
exists = refl

pub fetched : line_of (document_with (codes "d")
    (printed_delta (insert_text (codes "Hi") empty ∷ insert_text (codes "!") (insert empty (codes "bold") (flag_scalar true)) ∷ [])) 2)
    ≡ codes "{\"doc\":\"d\",\"ok\":\"doc\",\"ops\":[{\"insert\":\"Hi\"},{\"attributes\":{\"bold\":true},\"insert\":\"!\"}],\"rev\":2}\n"
unfolding serde_json_on_literals digits utf16_chars encode_utf8 insert
fetched = refl

pub since : line_of (since_reply (codes "d") ((retain 1 empty ∷ insert_text (codes "x") empty ∷ []) ∷ []) 2)
    ≡ codes "{\"deltas\":[[{\"retain\":1},{\"insert\":\"x\"}]],\"doc\":\"d\",\"ok\":\"since\",\"rev\":2}\n"
unfolding serde_json_on_literals digits utf16_chars encode_utf8
since = refl

pub subscribed : line_of (subscribed_reply (codes "d") 0) ≡ codes "{\"doc\":\"d\",\"ok\":\"subscribed\",\"rev\":0}\n"
unfolding serde_json_on_literals digits
subscribed = refl

pub unsubscribed : line_of (unsubscribed_reply (codes "d")) ≡ codes "{\"doc\":\"d\",\"ok\":\"unsubscribed\"}\n"
unfolding serde_json_on_literals digits
unsubscribed = refl

pub told : news_line (codes "d") 1 (insert_text (codes "Hi") empty ∷ []) ≡ codes "{\"doc\":\"d\",\"news\":1,\"ops\":[{\"insert\":\"Hi\"}]}\n"
unfolding serde_json_on_literals digits utf16_chars encode_utf8
told = refl

pub ended : ended_line (codes "d") ≡ codes "{\"doc\":\"d\",\"ended\":13}\n"
unfolding serde_json_on_literals digits
ended = refl
