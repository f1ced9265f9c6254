-- Bytes by their names in ASCII, and some kinds of them.
use Rattle.std.specs.Prelude.{ℕ, Bool, ◌||◌, ◌==◌}

-- the bytes themselves
abbrev pub tab : ℕ
tab = 9

abbrev pub line_feed : ℕ
line_feed = 10

abbrev pub space : ℕ
space = 32

abbrev pub exclamation_mark : ℕ
exclamation_mark = 33

abbrev pub hash : ℕ
hash = 35

abbrev pub opening : ℕ
opening = 40

abbrev pub closing : ℕ
closing = 41

abbrev pub plus : ℕ
plus = 43

abbrev pub comma : ℕ
comma = 44

abbrev pub hyphen : ℕ
hyphen = 45

abbrev pub dot : ℕ
dot = 46

abbrev pub digit_zero : ℕ
digit_zero = 48

abbrev pub colon : ℕ
colon = 58

abbrev pub less : ℕ
less = 60

abbrev pub equals : ℕ
equals = 61

abbrev pub greater : ℕ
greater = 62

abbrev pub underscore : ℕ
underscore = 95

abbrev pub letter_b : ℕ
letter_b = 98

abbrev pub bar : ℕ
bar = 124

abbrev pub tilde : ℕ
tilde = 126

abbrev pub is_opening : ℕ → Bool
is_opening byte = byte == opening

abbrev pub is_closing : ℕ → Bool
is_closing byte = byte == closing

abbrev pub is_comma : ℕ → Bool
is_comma byte = byte == comma

abbrev pub is_colon : ℕ → Bool
is_colon byte = byte == colon

-- what separates words within a line: a space or a tab
abbrev pub is_padding : ℕ → Bool
is_padding byte = byte == space || byte == tab

-- white space in a value: a space, a tab or a line feed
abbrev pub is_white : ℕ → Bool
is_white byte = byte == space || byte == tab || byte == line_feed
