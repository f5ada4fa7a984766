-- The job program's output as a list of ASCII codes. Each line ends in a newline.
-- Assumes nothing.
use Rattle.std.specs.Prelude.{ℕ, zero, suc, ◌+◌, ◌/◌, ◌%◌, cond, List, [], ◌∷◌, ◌++◌, ltb, get_or, length}

abbrev pub newline : ℕ
newline = 10

abbrev pub space : ℕ
space = 32

abbrev pub digit : ℕ → ℕ
digit n = 48 + n

-- the decimal digits of a number that has at most k + 1 of them, none in front that is 0 but a single 0
unfoldable pub digits_of : ℕ → ℕ → List ℕ
digits_of zero n = digit n ∷ []
digits_of (suc k) n = cond (ltb n 10) (digit n ∷ []) (digits_of k (n / 10) ++ digit (n % 10) ∷ [])

-- the decimal digits of any 64-bit number: it has at most 20
abbrev pub decimal : ℕ → List ℕ
decimal n = digits_of 19 n

-- `refused `
abbrev pub refused_word : List ℕ
refused_word = 114 ∷ 101 ∷ 102 ∷ 117 ∷ 115 ∷ 101 ∷ 100 ∷ space ∷ []

-- `tiles `
abbrev pub tiles_word : List ℕ
tiles_word = 116 ∷ 105 ∷ 108 ∷ 101 ∷ 115 ∷ space ∷ []

-- ` of `
abbrev pub of_word : List ℕ
of_word = space ∷ 111 ∷ 102 ∷ space ∷ []

-- the line `refused n`
unfoldable pub refused_text : ℕ → List ℕ
refused_text n = refused_word ++ decimal n ++ newline ∷ []

-- the line `tiles t of total`
unfoldable pub tiles_line : ℕ → ℕ → List ℕ
tiles_line t total = tiles_word ++ decimal t ++ of_word ++ decimal total ++ newline ∷ []

-- the line of a word: the word and the letter of its state
unfoldable pub word_line : ℕ → ℕ → List ℕ
word_line word letter = decimal word ++ space ∷ letter ∷ newline ∷ []

-- the lines of the first n words
unfoldable pub word_lines : List ℕ → List ℕ → ℕ → List ℕ
word_lines words letters zero = []
word_lines words letters (suc n) = word_lines words letters n ++ word_line (get_or words n 0) (get_or letters n 0)

-- the answer of a call that ran: the tiles done, then a line for each word
unfoldable pub report_text : ℕ → ℕ → List ℕ → List ℕ → List ℕ
report_text t total words letters = tiles_line t total ++ word_lines words letters (length words)
