-- A head that is read is the head that was written, and what was written is read again.
use Rattle.std.proofs.Common.{◌≡◌, ℕ, ◌+◌, ◌-◌, ◌^◌, ◌<◌, ◌≤◌, Bool, true, false, cond, eqb, List, [], ◌++◌, length, take, drop, Some, None, refl, sym, ap, ◌∙◌, append_assoc, arith}
use Rattle.std.proofs.lemmas.Bool.{eqb-true}
use Rattle.std.specs.Prelude.{IfSome}
use Rattle.std.proofs.lemmas.List.{drop-drop, take_at, drop_at, take-append-drop, length-drop, drop_all, take_rest, append-nil}
use borrow.Rule.Slice.PartMut.{put_mid, post_of}
use Rattle.byteorder.specs.Endian.{big_bytes, big_number}
use Rattle.byteorder.specs.Numbers.{big_number-reads_back}
use Rattle.nbd_wire.specs.declared.command.Request.{Request}
use Rattle.nbd_wire.specs.Numbers.{REQUEST_MAGIC, REPLY_MAGIC}
use Rattle.nbd_wire.specs.declared.command.Reply.{Reply}
use Rattle.nbd_wire.specs.Heads.{request_bytes, request_fields, request_at, FitsRequest, reply_bytes, reply_fields, reply_at, FitsReply}
use Rattle.nbd_wire.proofs.Numbers.{IsBytes, IsBytes-drop, bytes-number}

-- the next number of n bytes in a text, and what stands after it
field : (n at x : ℕ) (bytes rest : List ℕ) → at + n ≤ length bytes → IsBytes bytes → x ≡ big_number n (drop at bytes) → rest ≡ drop (at + n) bytes → big_bytes n x ++ rest ≡ drop at bytes
field n at x bytes rest long fits number is =
    rw (number, bytes-number n (drop at bytes) (omega (arith, length-drop at bytes)) (IsBytes-drop at bytes fits), is, ← drop-drop n at bytes) (take-append-drop n (drop at bytes))

regroup : (a b c d e f r : List ℕ) → (a ++ b ++ c ++ d ++ e ++ f) ++ r ≡ a ++ (b ++ (c ++ (d ++ (e ++ (f ++ r)))))
regroup a b c d e f r = simp append_assoc

-- 28 bytes whose first four are the magic are the bytes of the request in them
pub spelled : (bytes : List ℕ) → 28 ≤ length bytes → IsBytes bytes → big_number 4 bytes ≡ REQUEST_MAGIC → request_bytes (request_fields bytes) ++ drop 28 bytes ≡ bytes
unfolding request_bytes
spelled bytes long fits magic =
    let length_at = field 4 24 _ bytes (drop 28 bytes) long fits refl refl in
    let offset_at = field 8 16 _ bytes _ (omega arith) fits refl length_at in
    let cookie_at = field 8 8 _ bytes _ (omega arith) fits refl offset_at in
    let kind_at = field 2 6 _ bytes _ (omega arith) fits refl cookie_at in
    let flags_at = field 2 4 _ bytes _ (omega arith) fits refl kind_at in
    let magic_at = field 4 0 REQUEST_MAGIC bytes _ (omega arith) fits (sym magic) flags_at in
    let r = request_fields bytes in
    regroup (big_bytes 4 REQUEST_MAGIC) (big_bytes 2 r.flags.0) (big_bytes 2 r.kind) (big_bytes 8 r.cookie) (big_bytes 8 r.offset) (big_bytes 4 r.length) (drop 28 bytes) ∙ magic_at

pub found_is_spelled : (bytes : List ℕ) → 28 ≤ length bytes → IsBytes bytes → IfSome (request_at bytes) (λ r. request_bytes r ++ drop 28 bytes ≡ bytes)
unfolding request_at
found_is_spelled bytes long fits = found _ refl where
  found : (b : Bool) → eqb (big_number 4 bytes) REQUEST_MAGIC ≡ b → IfSome (cond b (Some (request_fields bytes)) None) (λ r. request_bytes r ++ drop 28 bytes ≡ bytes)
  found true e = spelled bytes long fits (eqb-true _ _ e)
  found false e = tt

-- what was written is read again, whatever follows it
number_in : (n x : ℕ) (before after text : List ℕ) (at : ℕ) → x < 256 ^ n → length before ≡ at → text ≡ before ++ (big_bytes n x ++ after) → big_number n (drop at text) ≡ x
number_in n x before after text at fits len is =
    rw (is, drop_at before (big_bytes n x ++ after) at len) (big_number-reads_back n x after fits)

fields_again : (r : Request) (rest text : List ℕ) → FitsRequest r → text ≡ request_bytes r ++ rest → request_fields text ≡ r
unfolding request_bytes
fields_again r rest text fits is =
    let magic = big_bytes 4 REQUEST_MAGIC in
    let flags = big_bytes 2 r.flags.0 in
    let kind = big_bytes 2 r.kind in
    let cookie = big_bytes 8 r.cookie in
    let offset = big_bytes 8 r.offset in
    let len = big_bytes 4 r.length in
    let e1 = number_in 2 r.flags.0 magic (kind ++ cookie ++ offset ++ len ++ rest) text 4 fits.flags refl is in
    let e2 = number_in 2 r.kind (magic ++ flags) (cookie ++ offset ++ len ++ rest) text 6 fits.kind refl is in
    let e3 = number_in 8 r.cookie (magic ++ flags ++ kind) (offset ++ len ++ rest) text 8 fits.cookie refl is in
    let e4 = number_in 8 r.offset (magic ++ flags ++ kind ++ cookie) (len ++ rest) text 16 fits.offset refl is in
    let e5 = number_in 4 r.length (magic ++ flags ++ kind ++ cookie ++ offset) rest text 24 fits.length refl is in
    rw (e1, e2, e3, e4, e5) refl

pub read_again : (r : Request) (rest : List ℕ) → FitsRequest r → request_at (request_bytes r ++ rest) ≡ Some r
unfolding request_at
read_again r rest fits =
    let text = request_bytes r ++ rest in
    let magic : big_number 4 text ≡ REQUEST_MAGIC = unfold request_bytes in refl in
    rw (magic, fields_again r rest text fits refl) refl

-- ---- the same of replies

regroup_reply : (a b c r : List ℕ) → (a ++ b ++ c) ++ r ≡ a ++ (b ++ (c ++ r))
regroup_reply a b c r = simp append_assoc

reply_spelled : (bytes : List ℕ) → 16 ≤ length bytes → IsBytes bytes → big_number 4 bytes ≡ REPLY_MAGIC → reply_bytes (reply_fields bytes) ++ drop 16 bytes ≡ bytes
unfolding reply_bytes
reply_spelled bytes long fits magic =
    let cookie_at = field 8 8 _ bytes (drop 16 bytes) long fits refl refl in
    let error_at = field 4 4 _ bytes _ (omega arith) fits refl cookie_at in
    let magic_at = field 4 0 REPLY_MAGIC bytes _ (omega arith) fits (sym magic) error_at in
    let r = reply_fields bytes in
    regroup_reply (big_bytes 4 REPLY_MAGIC) (big_bytes 4 r.error) (big_bytes 8 r.cookie) (drop 16 bytes) ∙ magic_at

pub found_reply_is_spelled : (bytes : List ℕ) → 16 ≤ length bytes → IsBytes bytes → IfSome (reply_at bytes) (λ r. reply_bytes r ++ drop 16 bytes ≡ bytes)
unfolding reply_at
found_reply_is_spelled bytes long fits = found _ refl where
  found : (b : Bool) → eqb (big_number 4 bytes) REPLY_MAGIC ≡ b → IfSome (cond b (Some (reply_fields bytes)) None) (λ r. reply_bytes r ++ drop 16 bytes ≡ bytes)
  found true e = reply_spelled bytes long fits (eqb-true _ _ e)
  found false e = tt

reply_fields_again : (r : Reply) (rest text : List ℕ) → FitsReply r → text ≡ reply_bytes r ++ rest → reply_fields text ≡ r
unfolding reply_bytes
reply_fields_again r rest text fits is =
    let magic = big_bytes 4 REPLY_MAGIC in
    let error = big_bytes 4 r.error in
    let cookie = big_bytes 8 r.cookie in
    let e1 = number_in 4 r.error magic (cookie ++ rest) text 4 fits.error refl is in
    let e2 = number_in 8 r.cookie (magic ++ error) rest text 8 fits.cookie refl is in
    rw (e1, e2) refl

pub read_reply_again : (r : Reply) (rest : List ℕ) → FitsReply r → reply_at (reply_bytes r ++ rest) ≡ Some r
unfolding reply_at
read_reply_again r rest fits =
    let text = reply_bytes r ++ rest in
    let magic : big_number 4 text ≡ REPLY_MAGIC = unfold reply_bytes in refl in
    rw (magic, reply_fields_again r rest text fits refl) refl

-- two halves of a head that are written one after the other
halves : (n m : ℕ) (a b first second out : List ℕ) → length a ≡ n → length b ≡ m → n + m ≤ length out → first ≡ a ++ drop n out → second ≡ b ++ drop m (take (length first - n) (drop n first)) → put_mid n (length first - n) first second ≡ (a ++ b) ++ drop (n + m) out
halves n m a b first second out la lb long e1 e2 =
    let rest : drop n first ≡ drop n out = ap (drop n) e1 ∙ drop_at a (drop n out) n la in
    let front : take n first ≡ a = ap (take n) e1 ∙ take_at a (drop n out) n la in
    let whole : take (length first - n) (drop n first) ≡ drop n out = take_rest first n ∙ rest in
    let behind : drop m (drop n out) ≡ drop (n + m) out = drop-drop m n out in
    let second-is : second ≡ b ++ drop (n + m) out = e2 ∙ ap (λ (t : List ℕ). b ++ drop m t) whole ∙ ap (λ (t : List ℕ). b ++ t) behind in
    let none : post_of n (length first - n) first ≡ [] = drop_all (length first - n) (drop n first) (omega (arith, length-drop n first)) in
    rw (front, none, append-nil second, second-is) (sym (append_assoc a b (drop (n + m) out)))

pub request_of_halves : (r : Request) (first second out : List ℕ) → 28 ≤ length out → first ≡ big_bytes 4 REQUEST_MAGIC ++ big_bytes 2 r.flags.0 ++ big_bytes 2 r.kind ++ drop 8 out
    → second ≡ big_bytes 8 r.cookie ++ big_bytes 8 r.offset ++ big_bytes 4 r.length ++ drop 20 (take (length first - 8) (drop 8 first)) → put_mid 8 (length first - 8) first second ≡ request_bytes r ++ drop 28 out
unfolding request_bytes
request_of_halves r first second out long e1 e2 =
    halves 8 20 (big_bytes 4 REQUEST_MAGIC ++ big_bytes 2 r.flags.0 ++ big_bytes 2 r.kind) (big_bytes 8 r.cookie ++ big_bytes 8 r.offset ++ big_bytes 4 r.length) first second out refl refl long e1 e2
