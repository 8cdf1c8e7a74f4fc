-- Pages of EBCDIC: the codes of the 95 printable characters of ASCII.
use Rattle.std.specs.Prelude.{ℕ, zero, suc, ◌-◌, ◌==◌, List, [], ◌∷◌, Option, Some, None, get_or, if◌then◌else◌}
use Rattle.iso_dialect.specs.declared.coding.Page.{Page}
use Rattle.iso_dialect.specs.declared.coding.Page.TheVariants.{Cp037, Cp1047}

-- the code of each character from 0x20 to 0x7E in IBM 037
unfoldable pub codes_037 : List ℕ
codes_037 =
    64 ∷ 90 ∷ 127 ∷ 123 ∷ 91 ∷ 108 ∷ 80 ∷ 125 ∷ 77 ∷ 93 ∷ 92 ∷ 78 ∷ 107 ∷ 96 ∷ 75 ∷ 97 ∷ 240 ∷ 241 ∷ 242 ∷ 243 ∷
    244 ∷ 245 ∷ 246 ∷ 247 ∷ 248 ∷ 249 ∷ 122 ∷ 94 ∷ 76 ∷ 126 ∷ 110 ∷ 111 ∷ 124 ∷ 193 ∷ 194 ∷ 195 ∷ 196 ∷ 197 ∷ 198 ∷
    199 ∷ 200 ∷ 201 ∷ 209 ∷ 210 ∷ 211 ∷ 212 ∷ 213 ∷ 214 ∷ 215 ∷ 216 ∷ 217 ∷ 226 ∷ 227 ∷ 228 ∷ 229 ∷ 230 ∷ 231 ∷ 232 ∷
    233 ∷ 186 ∷ 224 ∷ 187 ∷ 176 ∷ 109 ∷ 121 ∷ 129 ∷ 130 ∷ 131 ∷ 132 ∷ 133 ∷ 134 ∷ 135 ∷ 136 ∷ 137 ∷ 145 ∷ 146 ∷ 147 ∷
    148 ∷ 149 ∷ 150 ∷ 151 ∷ 152 ∷ 153 ∷ 162 ∷ 163 ∷ 164 ∷ 165 ∷ 166 ∷ 167 ∷ 168 ∷ 169 ∷ 192 ∷ 79 ∷ 208 ∷ 161 ∷ []

-- the code of each character from 0x20 to 0x7E in IBM 1047
unfoldable pub codes_1047 : List ℕ
codes_1047 =
    64 ∷ 90 ∷ 127 ∷ 123 ∷ 91 ∷ 108 ∷ 80 ∷ 125 ∷ 77 ∷ 93 ∷ 92 ∷ 78 ∷ 107 ∷ 96 ∷ 75 ∷ 97 ∷ 240 ∷ 241 ∷ 242 ∷ 243 ∷
    244 ∷ 245 ∷ 246 ∷ 247 ∷ 248 ∷ 249 ∷ 122 ∷ 94 ∷ 76 ∷ 126 ∷ 110 ∷ 111 ∷ 124 ∷ 193 ∷ 194 ∷ 195 ∷ 196 ∷ 197 ∷ 198 ∷
    199 ∷ 200 ∷ 201 ∷ 209 ∷ 210 ∷ 211 ∷ 212 ∷ 213 ∷ 214 ∷ 215 ∷ 216 ∷ 217 ∷ 226 ∷ 227 ∷ 228 ∷ 229 ∷ 230 ∷ 231 ∷ 232 ∷
    233 ∷ 173 ∷ 224 ∷ 189 ∷ 95 ∷ 109 ∷ 121 ∷ 129 ∷ 130 ∷ 131 ∷ 132 ∷ 133 ∷ 134 ∷ 135 ∷ 136 ∷ 137 ∷ 145 ∷ 146 ∷ 147 ∷
    148 ∷ 149 ∷ 150 ∷ 151 ∷ 152 ∷ 153 ∷ 162 ∷ 163 ∷ 164 ∷ 165 ∷ 166 ∷ 167 ∷ 168 ∷ 169 ∷ 192 ∷ 79 ∷ 208 ∷ 161 ∷ []

unfoldable pub codes : Page → List ℕ
codes Cp037 = codes_037
codes Cp1047 = codes_1047

-- the first of the characters from c on that has this code
abbrev pub char_from : ℕ → ℕ → List ℕ → Option ℕ
char_from b c [] = None
char_from b c (x ∷ xs) = if x == b then Some c else char_from b (suc c) xs

-- the character of a code
unfoldable pub char_in : Page → ℕ → Option ℕ
char_in p b = char_from b 32 (codes p)

-- the code of a character
unfoldable pub code_in : Page → ℕ → ℕ
code_in p c = get_or (codes p) (c - 32) 0

-- the characters of this many codes from b on
abbrev pub chars_from : Page → ℕ → ℕ → List (Option ℕ)
chars_from p b zero = []
chars_from p b (suc count) = char_in p b ∷ chars_from p (suc b) count

-- 0 where there is none
abbrev pub or_zero : Option ℕ → ℕ
or_zero None = 0
or_zero (Some c) = c
