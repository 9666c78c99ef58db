use Rattle.std.proofs.Common.{◌≡◌, ◌++◌, ◌≤◌}
use Rattle.std.specs.List.{repeat}
use Rattle.test_kit.proofs.spelling.push_repeated.Given as goal

abbrev pub invariant-loop : goal.invariant-loop
invariant-loop l =
    (l.counter ≤ l.count) × (l.bytes.items ≡ l.initial.bytes.items ++ repeat l.counter l.other)
