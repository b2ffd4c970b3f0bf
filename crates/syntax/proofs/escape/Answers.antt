use Rattle.std.proofs.Common.{◌≡◌, get_or, rules}
use Rattle.syntax.proofs.Spelled.{coded_begins, escaped_begins, no_escape}
use Rattle.syntax.proofs.escape.Goals as goal
use Rattle.syntax.proofs.escape.Goals.{in_default-via-then-bytes-lt2, in_default-via-else-bytes-lt2+then-bytes-lt4+in_default-1, in_default-via-else-bytes-lt2+else-bytes-lt4+in_default-1, in_default-via-else-bytes-lt2+in-92-2+else-is_special, then-bytes-lt4+in-92-1, else-bytes-lt4+in-92+in_default-1}

pub returns-in_ok-b-in-92 : goal.returns-in_ok-b-in-92
returns-in_ok-b-in-92 c = coded_begins c.args.bytes.now c.in_ok-b-in-92.b (search rules) (search rules) (search rules) c.in_ok-b-in-92.ensures

pub returns-in_err-b-in-92 : goal.returns-in_err-b-in-92
returns-in_err-b-in-92 c =
    let e : get_or c.args.bytes.now 1 0 ≡ 120 = search rules in
    rw c.from_residual.ensures (no_escape c.args.bytes.now (λ h a s. search rules) (λ v w h a b. c.in_err-b-in-92.ensures v w))

pub returns-in-92-2 : goal.returns-in-92-2
returns-in-92-2 c = elim c.in-92-2-1.branch [
  | then-bytes-lt4+in-92-1 w ↦ escaped_begins c.args.bytes.now (search rules) (search rules) c.if-is_special.ensures
  | else-bytes-lt4+in-92+in_default-1 w ↦ escaped_begins c.args.bytes.now (search rules) (search rules) c.if-is_special.ensures
]

pub returns-in_default : goal.returns-in_default
returns-in_default c = elim c.in_default.branch [
  | in_default-via-then-bytes-lt2 w ↦ no_escape c.args.bytes.now (λ h a s. search rules) (λ v u h a b d e. search rules)
  | in_default-via-else-bytes-lt2+then-bytes-lt4+in_default-1 w ↦ no_escape c.args.bytes.now (λ h a s. search rules) (λ v u h a b d e. search rules)
  | in_default-via-else-bytes-lt2+else-bytes-lt4+in_default-1 w ↦ no_escape c.args.bytes.now (λ h a s. search rules) (λ v u h a b d e. search rules)
  | in_default-via-else-bytes-lt2+in-92-2+else-is_special w ↦ elim w.in-92-2-1.branch [
    | then-bytes-lt4+in-92-1 y ↦ no_escape c.args.bytes.now (λ h a s. w.if-is_special.ensures s) (λ v u h a b d e. search rules)
    | else-bytes-lt4+in-92+in_default-1 y ↦ no_escape c.args.bytes.now (λ h a s. w.if-is_special.ensures s) (λ v u h a b d e. search rules)
  ]
]
