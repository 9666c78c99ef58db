-- The heads of requests and of simple replies as bytes, and how they are read from bytes. Source:
-- NBD proto.md. All numbers are big-endian.
use Rattle.std.specs.Prelude.{ℕ, ◌<◌, ◌^◌, ◌==◌, List, ◌++◌, drop, Option, Some, None}
use Rattle.std.specs.Prelude.{if◌then◌else◌}
use Rattle.byteorder.specs.Endian.{big_bytes, big_number}
use Rattle.nbd_wire.specs.Numbers.{REQUEST_MAGIC, REPLY_MAGIC}
use Rattle.nbd_wire.specs.declared.command.Request.{Request}
use Rattle.nbd_wire.specs.declared.command.Reply.{Reply}

-- the 28 bytes of a request's head
unfoldable pub request_bytes : Request → List ℕ
request_bytes r =
    big_bytes 4 REQUEST_MAGIC ++ big_bytes 2 r.flags.0 ++ big_bytes 2 r.kind ++ big_bytes 8 r.cookie
    ++ big_bytes 8 r.offset ++ big_bytes 4 r.length

-- the 16 bytes of a simple reply's head
unfoldable pub reply_bytes : Reply → List ℕ
reply_bytes r = big_bytes 4 REPLY_MAGIC ++ big_bytes 4 r.error ++ big_bytes 8 r.cookie

-- the fields of a request's head that begins here
abbrev pub request_fields : List ℕ → Request
request_fields bytes = record {
  flags = record { 0 = big_number 2 (drop 4 bytes) };
  kind = big_number 2 (drop 6 bytes);
  cookie = big_number 8 (drop 8 bytes);
  offset = big_number 8 (drop 16 bytes);
  length = big_number 4 (drop 24 bytes);
}

-- the fields of a simple reply's head that begins here
abbrev pub reply_fields : List ℕ → Reply
reply_fields bytes = record {
  error = big_number 4 (drop 4 bytes);
  cookie = big_number 8
      (drop 8 bytes);
}

-- the request whose head begins here, where the magic is right
unfoldable pub request_at : List ℕ → Option Request
request_at bytes = if big_number 4 bytes == REQUEST_MAGIC then Some (request_fields bytes) else None

-- the reply whose head begins here, where the magic is right
unfoldable pub reply_at : List ℕ → Option Reply
reply_at bytes = if big_number 4 bytes == REPLY_MAGIC then Some (reply_fields bytes) else None

-- each field fits its place in the head
pub record FitsRequest (r : Request) : Type 0 where
  pub flags : r.flags.0 < 2 ^ 16
  pub kind : r.kind < 2 ^ 16
  pub cookie : r.cookie < 2 ^ 64
  pub offset : r.offset < 2 ^ 64
  pub length : r.length < 2 ^ 32

pub record FitsReply (r : Reply) : Type 0 where
  pub error : r.error < 2 ^ 32
  pub cookie : r.cookie < 2 ^ 64
