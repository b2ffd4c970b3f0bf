-- What a line of the console asks for.
use Rattle.std.specs.Prelude.{◌≡◌, ℕ, ◌⊎◌, List, [], codes, None, Some, Ok, Err, Option, Result}
use Rattle.calls_console.specs.Numbers.{Decimal}
use Rattle.calls_console.specs.declared.command.Command.TheVariants.{Begin, Drop, Feed, Finish, Load, Meter}
use Rattle.calls_console.specs.declared.command.Command.{Command}
use Rattle.lines.specs.Lines.{Blank, Comment, Divides}
use Rattle.lines.specs.declared.parts.Unknown.{Unknown}

-- a renter's number, a space and the number of a frame's bytes
pub record OfFrame (rest : List ℕ) (renter bytes : ℕ) : Type 0 where
  pub first : List ℕ
  pub second : List ℕ
  pub divides : Divides rest first second
  pub renter_is : Decimal 8 first renter
  pub bytes_are : Decimal 64 second bytes

-- a renter's number, and behind a space the bytes to feed
pub record OfText (rest : List ℕ) (renter : ℕ) (bytes : List ℕ) : Type 0 where
  pub first : List ℕ
  pub divides : Divides rest first bytes
  pub renter_is : Decimal 8 first renter

-- the word of a command
abbrev pub word_of : Command → List ℕ
word_of (Load pattern) = codes "load"
word_of (Begin renter bytes) = codes "begin"
word_of (Feed renter bytes) = codes "feed"
word_of (Finish renter) = codes "finish"
word_of (Drop renter) = codes "drop"
word_of Meter = codes "meter"

-- what stands behind the word of a command
abbrev pub Arguments : List ℕ → Command → Type 0
Arguments rest (Load pattern) = rest ≡ pattern.now
Arguments rest (Begin renter bytes) = OfFrame rest renter bytes
Arguments rest (Feed renter bytes) = OfText rest renter bytes.now
Arguments rest (Finish renter) = Decimal 8 rest renter
Arguments rest (Drop renter) = Decimal 8 rest renter
Arguments rest Meter = rest ≡ []

-- a word and what stands behind it are those of the command
pub record Asks (word rest : List ℕ) (c : Command) : Type 0 where
  pub named : word ≡ word_of c
  pub arguments : Arguments rest c

-- a word and what stands behind it ask for the command, or for none
abbrev pub Reads : List ℕ → List ℕ → Option Command → Type 0
Reads word rest (Some c) = Asks word rest c
Reads word rest None = (c : Command) → Asks word rest c → ⊥

-- the line is the word of the command with its arguments
pub record Spells (line : List ℕ) (c : Command) : Type 0 where
  pub word : List ℕ
  pub rest : List ℕ
  pub divides : Divides line word rest
  pub asks : Asks word rest c

abbrev pub Means : List ℕ → Result (Option Command) Unknown → Type 0
Means line (Ok None) = Blank line ⊎ Comment line
Means line (Ok (Some c)) = Spells line c
Means line (Err unknown) = (unknown.line.now ≡ line) × (Blank line → ⊥) × (Comment line → ⊥) × ((c : Command) → Spells line c → ⊥)
