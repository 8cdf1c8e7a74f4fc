-- What `respond` writes.
use Rattle.std.specs.Prelude.{Option, Some, None, if◌then◌else◌, codes}
use Rattle.iso_msg.specs.Messages.{PlainMessage}
use Rattle.iso_codec.specs.Spelling.{spelling}
use Rattle.sw_context.specs.Pairs.{Pairs}
use Rattle.sw_messages.specs.declared.response_code.ResponseCode.{ResponseCode}
use Rattle.sw_messages.specs.Requests.{request_in, noted}
use Rattle.sw_messages.specs.Responses.{is_response, response_to}

-- none for a request that cannot be read, or that is itself a response; with the default code where none was noted
abbrev pub responded_by : ResponseCode → Option PlainMessage → Pairs → Pairs
responded_by default None x = x
responded_by default (Some m) x =
    if is_response m.mti then x
    else noted x (codes "response") (spelling (response_to m default x))

-- the context with its response
abbrev pub responded : ResponseCode → Pairs → Pairs
responded default x = responded_by default (request_in x) x
