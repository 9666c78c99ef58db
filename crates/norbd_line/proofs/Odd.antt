-- A number in its range that is no size makes no line, and is told as one or for want of memory.
use Rattle.std.proofs.Common.{◌≡◌, ◌⊎◌, ◌∙◌, ◌%◌, ℕ, List, [], Option, Some, Result, Ok, Err, IfOk, IfErr, codes, sym, ap, subst, refl, inl, inr, arith}
use Rattle.std.specs.Prelude.{IsErrAnd, option_map, slice_get, unwrap_or}
use Rattle.clap.specs.Words.{IsAmong, Row, Text, kind_of}
use Rattle.norbd_line.specs.Fault.{ComesFromWords}
use Rattle.norbd_line.specs.Line.{HasOddSize, IsLineInRange, IsLineOf, IsOddSize, IsSize, Names, TakesSize, number_in}
use Rattle.norbd_line.specs.declared.fault.Fault.{Fault}
use Rattle.norbd_line.specs.declared.fault.Fault.TheVariants.{Words, NoMemory, BadSize, InputFailed, OutputFailed, ImageFailed, WrongId, BadSfdp, Protected, Slow, BadRecord, NotFormatted, Corrupt, NotClean, BadImageSize, NoSocket, NoThread, BadSync, NotText, EmptyName, InUse, Formatted, NotEmpty, BadAddress, BadTidy, BadRange, BadInput}
use Rattle.norbd_line.specs.declared.line.Line.{Line}
use Rattle.norbd_line.specs.declared.line.ReadLine.{ReadLine}
use Rattle.norbd_line.specs.declared.line.Line.TheVariants.{Plain, Format, Script, Serve, Status, Check, Unprotect, Settle, Show, Read, Write, Rescue, Chip}

-- the words name one command
same_name : (words : List Text) (n m : Text) (rows others : List Row) → Names words n rows → Names words m others → n ≡ m
same_name words n m rows others one two =
    ap (λ (o : Option (Text × List Row)). unwrap_or (option_map (λ c. c.0) o) []) (sym one.command ∙ two.command)

same_rows : (words : List Text) (n m : Text) (rows others : List Row) → Names words n rows → Names words m others → rows ≡ others
same_rows words n m rows others one two =
    ap (λ (o : Option (Text × List Row)). unwrap_or (option_map (λ c. c.1) o) []) (sym one.command ∙ two.command)

-- the first byte of a name
first_of_name : Text → ℕ
first_of_name name = unwrap_or (slice_get name 0) 0

second_of_name : Text → ℕ
second_of_name name = unwrap_or (slice_get name 1) 0

chip_takes_no_size : TakesSize (codes "chip") → ⊥
unfolding first_of_name
chip_takes_no_size (inl e) = let first : 99 ≡ 102 = ap first_of_name e in omega (arith, first)
chip_takes_no_size (inr e) = let first : 99 ≡ 115 = ap first_of_name e in omega (arith, first)

plain_takes_no_size : TakesSize (codes "plain") → ⊥
unfolding first_of_name
plain_takes_no_size (inl e) = let first : 112 ≡ 102 = ap first_of_name e in omega (arith, first)
plain_takes_no_size (inr e) = let first : 112 ≡ 115 = ap first_of_name e in omega (arith, first)

serve_takes_no_size : TakesSize (codes "serve") → ⊥
unfolding first_of_name second_of_name
serve_takes_no_size (inl e) = let first : 115 ≡ 102 = ap first_of_name e in omega (arith, first)
serve_takes_no_size (inr e) = let second : 101 ≡ 99 = ap second_of_name e in omega (arith, second)

status_takes_no_size : TakesSize (codes "status") → ⊥
unfolding first_of_name second_of_name
status_takes_no_size (inl e) = let first : 115 ≡ 102 = ap first_of_name e in omega (arith, first)
status_takes_no_size (inr e) = let second : 116 ≡ 99 = ap second_of_name e in omega (arith, second)

unprotect_takes_no_size : TakesSize (codes "unprotect") → ⊥
unfolding first_of_name
unprotect_takes_no_size (inl e) = let first : 117 ≡ 102 = ap first_of_name e in omega (arith, first)
unprotect_takes_no_size (inr e) = let first : 117 ≡ 115 = ap first_of_name e in omega (arith, first)

check_takes_no_size : TakesSize (codes "check") → ⊥
unfolding first_of_name
check_takes_no_size (inl e) = let first : 99 ≡ 102 = ap first_of_name e in omega (arith, first)
check_takes_no_size (inr e) = let first : 99 ≡ 115 = ap first_of_name e in omega (arith, first)

settle_takes_no_size : TakesSize (codes "settle") → ⊥
unfolding first_of_name second_of_name
settle_takes_no_size (inl e) = let first : 115 ≡ 102 = ap first_of_name e in omega (arith, first)
settle_takes_no_size (inr e) = let second : 101 ≡ 99 = ap second_of_name e in omega (arith, second)

show_takes_no_size : TakesSize (codes "show") → ⊥
unfolding first_of_name second_of_name
show_takes_no_size (inl e) = let first : 115 ≡ 102 = ap first_of_name e in omega (arith, first)
show_takes_no_size (inr e) = let second : 104 ≡ 99 = ap second_of_name e in omega (arith, second)

read_takes_no_size : TakesSize (codes "read") → ⊥
unfolding first_of_name
read_takes_no_size (inl e) = let first : 114 ≡ 102 = ap first_of_name e in omega (arith, first)
read_takes_no_size (inr e) = let first : 114 ≡ 115 = ap first_of_name e in omega (arith, first)

rescue_takes_no_size : TakesSize (codes "rescue") → ⊥
unfolding first_of_name
rescue_takes_no_size (inl e) = let first : 114 ≡ 102 = ap first_of_name e in omega (arith, first)
rescue_takes_no_size (inr e) = let first : 114 ≡ 115 = ap first_of_name e in omega (arith, first)

write_takes_no_size : TakesSize (codes "write") → ⊥
unfolding first_of_name
write_takes_no_size (inl e) = let first : 119 ≡ 102 = ap first_of_name e in omega (arith, first)
write_takes_no_size (inr e) = let first : 119 ≡ 115 = ap first_of_name e in omega (arith, first)

same_number : (k m : ℕ) → Some k ≡ Some m → k ≡ m
same_number k m e = ap (λ (o : Option ℕ). unwrap_or o 0) e

size≢odd : (k m : ℕ) → Some k ≡ Some m → IsSize k → IsOddSize m → ⊥
size≢odd k m e size odd = odd.2 (ap (λ n. n % 64) (sym (same_number k m e)) ∙ size.2)

no_odd_line : (words : List Text) (l : Line) → IsLineInRange l → IsLineOf words l → (odd_kib : ℕ) → HasOddSize words odd_kib → ⊥
no_odd_line words (Chip asked) range line odd_kib odd =
    let name = same_name words line.0 odd.0 line.1 odd.1 line.2 odd.2 in
    chip_takes_no_size (subst TakesSize (sym name ∙ line.3.0) odd.3.0)
no_odd_line words (Plain sectors keeps_rows) range line odd_kib odd =
    let name = same_name words line.0 odd.0 line.1 odd.1 line.2 odd.2 in
    plain_takes_no_size (subst TakesSize (sym name ∙ line.3.0) odd.3.0)
no_odd_line words (Format image kib forced sure) range line odd_kib odd =
    let rows = same_rows words line.0 odd.0 line.1 odd.1 line.2 odd.2 in
    let number = sym line.3.2 ∙ ap (number_in (codes "kib")) rows ∙ odd.3.1 in
    size≢odd kib odd_kib number range odd.3.2
no_odd_line words (Script kib) range line odd_kib odd =
    let rows = same_rows words line.0 odd.0 line.1 odd.1 line.2 odd.2 in
    let number = sym line.3.1 ∙ ap (number_in (codes "kib")) rows ∙ odd.3.1 in
    size≢odd kib odd_kib number range odd.3.2
no_odd_line words (Serve asked) range line odd_kib odd =
    let name = same_name words line.0 odd.0 line.1 odd.1 line.2 odd.2 in
    serve_takes_no_size (subst TakesSize (sym name ∙ line.3.0) odd.3.0)
no_odd_line words (Status path tells_json) range line odd_kib odd =
    let name = same_name words line.0 odd.0 line.1 odd.1 line.2 odd.2 in
    status_takes_no_size (subst TakesSize (sym name ∙ line.3.0) odd.3.0)
no_odd_line words (Unprotect image sure) range line odd_kib odd =
    let name = same_name words line.0 odd.0 line.1 odd.1 line.2 odd.2 in
    unprotect_takes_no_size (subst TakesSize (sym name ∙ line.3.0) odd.3.0)
no_odd_line words (Check image mends tells_json dump) range line odd_kib odd =
    let name = same_name words line.0 odd.0 line.1 odd.1 line.2 odd.2 in
    check_takes_no_size (subst TakesSize (sym name ∙ line.3.0) odd.3.0)
no_odd_line words (Settle image) range line odd_kib odd =
    let name = same_name words line.0 odd.0 line.1 odd.1 line.2 odd.2 in
    settle_takes_no_size (subst TakesSize (sym name ∙ line.3.0) odd.3.0)
no_odd_line words (Show image) range line odd_kib odd =
    let name = same_name words line.0 odd.0 line.1 odd.1 line.2 odd.2 in
    show_takes_no_size (subst TakesSize (sym name ∙ line.3.0) odd.3.0)
no_odd_line words (Read image asked) range line odd_kib odd =
    let name = same_name words line.0 odd.0 line.1 odd.1 line.2 odd.2 in
    read_takes_no_size (subst TakesSize (sym name ∙ line.3.0) odd.3.0)
no_odd_line words (Write image asked firm) range line odd_kib odd =
    let name = same_name words line.0 odd.0 line.1 odd.1 line.2 odd.2 in
    write_takes_no_size (subst TakesSize (sym name ∙ line.3.0) odd.3.0)
no_odd_line words (Rescue image) range line odd_kib odd =
    let name = same_name words line.0 odd.0 line.1 odd.1 line.2 odd.2 in
    rescue_takes_no_size (subst TakesSize (sym name ∙ line.3.0) odd.3.0)

pub odd_is_refused : (words : List Text) (r : Result ReadLine Fault) → IfOk r (λ it. IsLineInRange it.line) → IfOk r (λ it. IsLineOf words it.line) → IfErr r (ComesFromWords words)
    → (odd_kib : ℕ) → HasOddSize words odd_kib → IsErrAnd r (λ e. (e ≡ BadSize odd_kib) ⊎ (e ≡ NoMemory))
odd_is_refused words (Ok it) range line fault odd_kib odd = absurd (no_odd_line words it.line range line odd_kib odd)
odd_is_refused words (Err (Words error)) range line fault odd_kib odd = absurd (subst (IsAmong (kind_of error)) odd.2.faultless fault.1)
odd_is_refused words (Err (BadSize kib)) range line fault odd_kib odd =
    let rows = same_rows words fault.0 odd.0 fault.1 odd.1 fault.2 odd.2 in
    inl (ap BadSize (same_number kib odd_kib (sym fault.3.1 ∙ ap (number_in (codes "kib")) rows ∙ odd.3.1)))
odd_is_refused words (Err BadSync) range line fault odd_kib odd =
    let name = same_name words fault.0 odd.0 fault.1 odd.1 fault.2 odd.2 in
    absurd (serve_takes_no_size (subst TakesSize (sym name ∙ fault.3.0) odd.3.0))
odd_is_refused words (Err BadTidy) range line fault odd_kib odd =
    let name = same_name words fault.0 odd.0 fault.1 odd.1 fault.2 odd.2 in
    absurd (serve_takes_no_size (subst TakesSize (sym name ∙ fault.3.0) odd.3.0))
odd_is_refused words (Err BadAddress) range line fault odd_kib odd =
    let name = same_name words fault.0 odd.0 fault.1 odd.1 fault.2 odd.2 in
    absurd (serve_takes_no_size (subst TakesSize (sym name ∙ fault.3.0) odd.3.0))
odd_is_refused words (Err NotText) range line fault odd_kib odd = absurd fault
odd_is_refused words (Err EmptyName) range line fault odd_kib odd = absurd (no_odd_line words fault.0 fault.2 fault.1 odd_kib odd)
odd_is_refused words (Err NoMemory) range line fault odd_kib odd = inr refl
odd_is_refused words (Err InputFailed) range line fault odd_kib odd = absurd fault
odd_is_refused words (Err OutputFailed) range line fault odd_kib odd = absurd fault
odd_is_refused words (Err (ImageFailed cause)) range line fault odd_kib odd = absurd fault
odd_is_refused words (Err InUse) range line fault odd_kib odd = absurd fault
odd_is_refused words (Err Formatted) range line fault odd_kib odd = absurd fault
odd_is_refused words (Err NotEmpty) range line fault odd_kib odd = absurd fault
odd_is_refused words (Err WrongId) range line fault odd_kib odd = absurd fault
odd_is_refused words (Err BadSfdp) range line fault odd_kib odd = absurd fault
odd_is_refused words (Err Protected) range line fault odd_kib odd = absurd fault
odd_is_refused words (Err Slow) range line fault odd_kib odd = absurd fault
odd_is_refused words (Err BadRecord) range line fault odd_kib odd = absurd fault
odd_is_refused words (Err NotFormatted) range line fault odd_kib odd = absurd fault
odd_is_refused words (Err Corrupt) range line fault odd_kib odd = absurd fault
odd_is_refused words (Err NotClean) range line fault odd_kib odd = absurd fault
odd_is_refused words (Err (BadImageSize length)) range line fault odd_kib odd = absurd fault
odd_is_refused words (Err (NoSocket cause)) range line fault odd_kib odd = absurd fault
odd_is_refused words (Err NoThread) range line fault odd_kib odd = absurd fault
odd_is_refused words (Err (BadRange count)) range line fault odd_kib odd = absurd fault
odd_is_refused words (Err (BadInput length)) range line fault odd_kib odd = absurd fault
