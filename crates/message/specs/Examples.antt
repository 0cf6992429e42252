-- Promise 9, the definitions at work: which messages are XML, and where the others are refused. The other promises speak of readable messages and of places
-- in them; these say which are readable. (proofs/DeclarationsAtWork, MarkupAtWork, TagsAtWork, CharactersAtWork, LimitsAtWork) Assumes nothing.
use Rattle.std.specs.Prelude.{ℕ, zero, suc, ◌≡◌, List, [], ◌∷◌, ◌++◌, map}
use Rattle.message.specs.Class.{class_of}
use Rattle.message.specs.Reading.{Reading}
use Rattle.message.specs.Reading.Reading.{refused}
use Rattle.message.specs.Limits.{link_limits}
use Rattle.message.specs.Words.{codes}
use Rattle.message.specs.Messages.{message_of}
use Rattle.message.specs.declared.Message.{Message}

-- a message, with its answer
pub record Example : Type 0 where
  pub bytes : List ℕ
  pub due : Reading Message

abbrev pub AllAsDue : List Example → Type 0
AllAsDue examples = map (λ (e : Example). message_of class_of link_limits e.bytes) examples ≡ map (λ (e : Example). e.due) examples

-- well formed, and none of the seven; and refused with a number at a place
abbrev pub formed : List ℕ → Example
formed bytes = record { bytes = bytes; due = refused 13 0 }

abbrev pub stops : ℕ → ℕ → List ℕ → Example
stops number place bytes = record { bytes = bytes; due = refused number place }

abbrev pub times : ℕ → List ℕ → List ℕ
times zero word = []
times (suc k) word = word ++ times k word

abbrev pub DeclarationsAtWork : Type 0
DeclarationsAtWork =
    AllAsDue
    ( -- the declaration may stand at the very start, in either quotation marks, with white space where XML 1.0 has it
    formed (codes "<a/>")
    ∷ formed (codes "<?xml version=\"1.0\"?><a/>")
    ∷ formed (codes "<?xml version='1.0' ?><a/>")
    ∷ formed (codes "<?xml  version = \"1.0\"  encoding = 'UTF-8' ?><a/>")
    ∷ formed (codes "<?xml version=\"1.0\" encoding=\"utf-8\"?><a/>")
    ∷  -- version 1.0, perhaps an encoding of two spellings, and nothing else
    stops 9 17 (codes "<?xml version=\"1.1\"?><a/>")
    ∷ stops 9 18 (codes "<?xml version=\"1.00\"?><a/>")
    ∷ stops 9 18 (codes "<?xml version=\"1.0'?><a/>")
    ∷ stops 9 14 (codes "<?xml version=1.0?><a/>")
    ∷ stops 9 6 (codes "<?xml encoding=\"UTF-8\"?><a/>")
    ∷ stops 9 6 (codes "<?xml ?><a/>")
    ∷ stops 9 19 (codes "<?xml version=\"1.0\"encoding=\"utf-8\"?><a/>")
    ∷ stops 9 31 (codes "<?xml version=\"1.0\" encoding=\"Utf-8\"?><a/>")
    ∷ stops 9 31 (codes "<?xml version=\"1.0\" encoding=\"uTF-8\"?><a/>")
    ∷ stops 9 34 (codes "<?xml version=\"1.0\" encoding=\"UTF-16\"?><a/>")
    ∷ stops 9 35 (codes "<?xml version=\"1.0\" encoding=\"UTF-8'?><a/>")
    ∷ stops 9 20 (codes "<?xml version=\"1.0\" standalone=\"yes\"?><a/>")
    ∷ stops 9 37 (codes "<?xml version=\"1.0\" encoding=\"UTF-8\" standalone=\"no\"?><a/>")
    ∷ stops 9 20 (codes "<?xml version=\"1.0\"? ><a/>")
    ∷ stops 9 21 (codes "<?xml version=\"1.0\"?>")
    ∷  -- a `<?` that is no declaration, or a declaration elsewhere
    stops 12 0 (codes "<?xml?><a/>")
    ∷ stops 12 0 (codes "<?xml")
    ∷ stops 12 0 (codes "<?XML version=\"1.0\"?><a/>")
    ∷ stops 12 0 (codes "<?b?><a/>")
    ∷ stops 12 1 (codes " <?xml version=\"1.0\"?><a/>")
    ∷ stops 12 21 (codes "<?xml version=\"1.0\"?><?xml version=\"1.0\"?><a/>")
    ∷ stops 12 3 (codes "<a><?xml version=\"1.0\"?></a>")
    ∷ stops 12 4 (codes "<a/><?b?>")
    ∷  -- around the root: white space and comments; one root
    formed (9 ∷ 10 ∷ 13 ∷ codes " <!-- -->" ++ 13 ∷ 10 ∷ codes "<a/>" ++ 9 ∷ codes "<!-- --> <!---->" ++ 10 ∷ [])
    ∷ formed (codes "<?xml version=\"1.0\"?> <!-- --> <a/>")
    ∷ stops 9 0 []
    ∷ stops 9 1 (codes " ")
    ∷ stops 9 0 (239 ∷ 187 ∷ 191 ∷ codes "<a/>")
    ∷ stops 9 0 (codes "b<a/>")
    ∷ stops 9 0 (codes "&#32;<a/>")
    ∷ stops 9 4 (codes "<a/>b")
    ∷ stops 9 4 (codes "<a/>&#32;")
    ∷ stops 9 5 (codes "<a/><b/>")
    ∷ stops 9 1 (codes "</a>")
    ∷ [])

abbrev pub MarkupAtWork : Type 0
MarkupAtWork =
    AllAsDue
    ( -- comments, before, in and behind the root
    formed (codes "<!----><a/>")
    ∷ formed (codes "<!--> - ]]> < & &b; <c> --><a/>")
    ∷ formed (codes "<a>b<!-- - -->c<!-- --></a>")
    ∷ formed (codes "<!--" ++ 195 ∷ 169 ∷ 239 ∷ 191 ∷ 189 ∷ 240 ∷ 144 ∷ 128 ∷ 128 ∷ 127 ∷ codes "--><a/>")
    ∷ stops 9 10 (codes "<!---><a/>")
    ∷ stops 9 7 (codes "<!-- -- --><a/>")
    ∷ stops 9 10 (codes "<a><!-- ---></a>")
    ∷ stops 9 3 (codes "<!-b--><a/>")
    ∷ stops 9 2 (codes "<! --><a/>")
    ∷ stops 9 4 (codes "<!--" ++ 8 ∷ codes "--><a/>")
    ∷  -- 12 needs a whole opening, and is given wherever markup may begin
    stops 12 0 (codes "<!DOCTYPE a><a/>")
    ∷ stops 12 0 (codes "<!DOCTYPEa")
    ∷ stops 9 2 (codes "<!doctype a><a/>")
    ∷ stops 9 2 (codes "<!DOCTYP")
    ∷ stops 12 0 (codes "<![CDATA[a]]><a/>")
    ∷ stops 12 3 (codes "<a><!DOCTYPE a></a>")
    ∷ stops 12 4 (codes "<a>b<![CDATA[a]]></a>")
    ∷ stops 9 5 (codes "<a><![cdata[a]]></a>")
    ∷ stops 9 5 (codes "<a><![CDATA a]]></a>")
    ∷ stops 12 3 (codes "<a><?b?></a>")
    ∷ stops 12 4 (codes "<a/><!DOCTYPE a>")
    ∷ stops 12 4 (codes "<a/><![CDATA[")
    ∷  -- and not in a tag, a value or a comment
    stops 9 3 (codes "<a <?b?>/>")
    ∷ stops 9 6 (codes "<a b=\"<?c?>\"/>")
    ∷ stops 9 6 (codes "<a b=\"<!-- -->\"/>")
    ∷ stops 9 3 (codes "<a <!-- -->/>")
    ∷ formed (codes "<!--<?b?><![CDATA[<!DOCTYPE--><a/>")
    ∷  -- text: anything but `<`, `&` and `]]>`
    formed (codes "<a>b > c ' \" = ; - -- ]] ]> </a>")
    ∷ formed (codes "<a>" ++ 9 ∷ 10 ∷ 13 ∷ 13 ∷ 10 ∷ 127 ∷ codes "</a>")
    ∷ stops 9 5 (codes "<a>]]></a>")
    ∷ stops 9 6 (codes "<a>]]]></a>")
    ∷ formed (codes "<a>]]&gt;]]<!-- -->>]<b/>]></a>")
    ∷ stops 9 3 (codes "<a>" ++ 0 ∷ codes "</a>")
    ∷ stops 9 3 (codes "<a>" ++ 11 ∷ codes "</a>")
    ∷ stops 9 3 (codes "<a>" ++ 31 ∷ codes "</a>")
    ∷ stops 9 6 (codes "<a b=\"" ++ 31 ∷ codes "\"/>")
    ∷ [])

abbrev pub TagsAtWork : Type 0
TagsAtWork =
    AllAsDue
    ( -- names: a part, or two joined by a colon
    formed (codes "<_/>")
    ∷ formed (codes "<Az-09._/>")
    ∷ formed (codes "<a:b></a:b>")
    ∷ formed (codes "<a1:_-. b:c=\"\"/>")
    ∷ stops 9 1 (codes "<1/>")
    ∷ stops 9 1 (codes "<:a/>")
    ∷ stops 9 3 (codes "<a:/>")
    ∷ stops 9 3 (codes "<a:1/>")
    ∷ stops 9 3 (codes "<a:-/>")
    ∷ stops 9 4 (codes "<a:b:c/>")
    ∷ stops 9 2 (codes "<a,/>")
    ∷ stops 9 1 (codes "<" ++ 195 ∷ 169 ∷ codes "/>")
    ∷ stops 9 2 (codes "<a" ++ 195 ∷ 169 ∷ codes "/>")
    ∷  -- tags
    formed (codes "<a></a>")
    ∷ formed (codes "<a ></a >")
    ∷ formed (codes "<a" ++ 9 ∷ 13 ∷ 10 ∷ codes "/>")
    ∷ formed (codes "<a><b><c/></b><b/></a>")
    ∷ stops 9 1 (codes "< a/>")
    ∷ stops 9 3 (codes "<a/ >")
    ∷ stops 9 5 (codes "<a></ a>")
    ∷ stops 9 7 (codes "<a></a b=\"\">")
    ∷ stops 9 5 (codes "<a></b>")
    ∷ stops 9 5 (codes "<a></A>")
    ∷ stops 9 7 (codes "<ab></a>")
    ∷ stops 9 6 (codes "<a></ab>")
    ∷ stops 9 7 (codes "<a:b></b>")
    ∷ stops 9 9 (codes "<a:b></a:c>")
    ∷ stops 9 8 (codes "<a:b></a>")
    ∷ stops 9 8 (codes "<a><b></a></b>")
    ∷ stops 9 2 (codes "<a")
    ∷  -- attributes, in either quotation marks
    formed (codes "<a b=\"c\" d='e'/>")
    ∷ formed (codes "<a b" ++ 9 ∷ codes "=" ++ 13 ∷ 10 ∷ codes "\"c\"/>")
    ∷ formed (codes "<a  b=\"\"  ></a>")
    ∷ formed (codes "<a b=\"'\" c='\"'/>")
    ∷ formed (codes "<a b=\"> ]]> / = \"/>")
    ∷ formed (codes "<a b=\"" ++ 9 ∷ 10 ∷ 13 ∷ 13 ∷ 10 ∷ codes "\"/>")
    ∷ stops 9 10 (codes "<a b=\"c'/>")
    ∷ stops 9 5 (codes "<a b=c/>")
    ∷ stops 9 4 (codes "<a b/>")
    ∷ stops 9 5 (codes "<a b c=\"\"/>")
    ∷ stops 9 4 (codes "<a b\"c\"/>")
    ∷ stops 9 5 (codes "<a b==\"c\"/>")
    ∷ stops 9 8 (codes "<a b=\"c\"d=\"e\"/>")
    ∷ stops 9 3 (codes "<a =\"c\"/>")
    ∷ stops 9 6 (codes "<a b=\"<\"/>")
    ∷ stops 9 7 (codes "<a b=\"&\"/>")
    ∷  -- none twice on one element, by the whole name
    formed (codes "<a b=\"\" B=\"\" b:b=\"\" c:b=\"\" b:c=\"\" bc=\"\"><d b=\"\"/></a>")
    ∷ formed (codes "<a xmlns=\"\" xmlns:b=\"\"/>")
    ∷ stops 9 9 (codes "<a b=\"\" b=\"\"/>")
    ∷ stops 9 14 (codes "<a b=\"\" c=\"\" b =\"\"/>")
    ∷ stops 9 13 (codes "<a b:c=\"\" b:c=\"\"/>")
    ∷ stops 9 17 (codes "<a xmlns=\"\" xmlns=\"\"/>")
    ∷ [])

abbrev pub CharactersAtWork : Type 0
CharactersAtWork =
    AllAsDue
    ( -- the five predefined references, in text and in values
    formed (codes "<a>&lt;&gt;&amp;&apos;&quot;</a>")
    ∷ formed (codes "<a b=\"&lt;&gt;&amp;&apos;&quot;\"/>")
    ∷ stops 9 4 (codes "<a>&LT;</a>")
    ∷ stops 9 4 (codes "<a>&nbsp;</a>")
    ∷ stops 9 5 (codes "<a>&a;</a>")
    ∷ stops 9 6 (codes "<a>&lt</a>")
    ∷ stops 9 4 (codes "<a>& </a>")
    ∷ stops 9 4 (codes "<a>&")
    ∷  -- and numbers of legal characters
    formed (codes "<a>&#60;&#x3C;&#x3c;&#0060;&#x0003C;</a>")
    ∷ formed (codes "<a>&#9;&#10;&#13;&#32;&#127;&#xD7FF;&#xE000;&#xFFFD;&#x10000;&#1114111;&#x10FFFF;</a>")
    ∷ formed (codes "<a b=\"&#60;&#x22;&#39;&#38;\"/>")
    ∷ stops 9 5 (codes "<a>&#X3C;</a>")
    ∷ stops 9 5 (codes "<a>&#;</a>")
    ∷ stops 9 6 (codes "<a>&#x;</a>")
    ∷ stops 9 6 (codes "<a>&#3C;</a>")
    ∷ stops 9 7 (codes "<a>&#x3G;</a>")
    ∷ stops 9 5 (codes "<a>&# 60;</a>")
    ∷ stops 9 7 (codes "<a>&#60</a>")
    ∷ stops 9 6 (codes "<a>&#0;</a>")
    ∷ stops 9 6 (codes "<a>&#8;</a>")
    ∷ stops 9 7 (codes "<a>&#11;</a>")
    ∷ stops 9 10 (codes "<a>&#xD800;</a>")
    ∷ stops 9 10 (codes "<a>&#xFFFE;</a>")
    ∷ stops 9 11 (codes "<a>&#x110000;</a>")
    ∷ stops 9 11 (codes "<a>&#1114112;</a>")
    ∷  -- UTF-8, to the byte
    formed (codes "<a>" ++ 194 ∷ 128 ∷ 223 ∷ 191 ∷ 224 ∷ 160 ∷ 128 ∷ 237 ∷ 159 ∷ 191 ∷ 238 ∷ 128 ∷ 128 ∷ 239 ∷ 187 ∷ 191 ∷ codes "</a>")
    ∷ formed (codes "<a>" ++ 239 ∷ 191 ∷ 189 ∷ 240 ∷ 144 ∷ 128 ∷ 128 ∷ 244 ∷ 143 ∷ 191 ∷ 191 ∷ codes "</a>")
    ∷ formed (codes "<a b=\"" ++ 194 ∷ 128 ∷ 244 ∷ 143 ∷ 191 ∷ 191 ∷ codes "\"/>")
    ∷ stops 9 3 (codes "<a>" ++ 128 ∷ codes "</a>")
    ∷ stops 9 3 (codes "<a>" ++ 192 ∷ 128 ∷ codes "</a>")
    ∷ stops 9 3 (codes "<a>" ++ 193 ∷ 191 ∷ codes "</a>")
    ∷ stops 9 4 (codes "<a>" ++ 194 ∷ 127 ∷ codes "</a>")
    ∷ stops 9 4 (codes "<a>" ++ 194 ∷ 192 ∷ codes "</a>")
    ∷ stops 9 4 (codes "<a>" ++ 224 ∷ 159 ∷ 191 ∷ codes "</a>")
    ∷ stops 9 4 (codes "<a>" ++ 237 ∷ 160 ∷ 128 ∷ codes "</a>")
    ∷ stops 9 5 (codes "<a>" ++ 239 ∷ 191 ∷ 190 ∷ codes "</a>")
    ∷ stops 9 4 (codes "<a>" ++ 240 ∷ 143 ∷ 191 ∷ 191 ∷ codes "</a>")
    ∷ stops 9 4 (codes "<a>" ++ 244 ∷ 144 ∷ 128 ∷ 128 ∷ codes "</a>")
    ∷ stops 9 3 (codes "<a>" ++ 245 ∷ 128 ∷ 128 ∷ 128 ∷ codes "</a>")
    ∷ stops 9 3 (codes "<a>" ++ 255 ∷ codes "</a>")
    ∷ [])

abbrev pub LimitsAtWork : Type 0
LimitsAtWork =
    AllAsDue
    ( -- 32 levels, and 33
    formed (times 31 (codes "<a>") ++ codes "<a/>" ++ times 31 (codes "</a>"))
    ∷ stops 10 96 (times 32 (codes "<a>") ++ codes "<a")
    ∷ stops 12 104 (times 32 (codes "<a>") ++ codes "<!-- --><?b?>")
    ∷ stops 9 97 (times 32 (codes "<a>") ++ codes "<1")
    ∷ formed (times 32 (codes "<a>") ++ times 32 (codes "</a>"))
    ∷  -- 16 attributes, and 17
    formed (codes "<a a=\"\" b=\"\" c=\"\" d=\"\" e=\"\" f=\"\" g=\"\" h=\"\" i=\"\" j=\"\" k=\"\" l=\"\" m=\"\" n=\"\" o=\"\" p=\"\"/>")
    ∷ stops 11 83 (codes "<a a=\"\" b=\"\" c=\"\" d=\"\" e=\"\" f=\"\" g=\"\" h=\"\" i=\"\" j=\"\" k=\"\" l=\"\" m=\"\" n=\"\" o=\"\" p=\"\" a")
    ∷ stops 9 83 (codes "<a a=\"\" b=\"\" c=\"\" d=\"\" e=\"\" f=\"\" g=\"\" h=\"\" i=\"\" j=\"\" k=\"\" l=\"\" m=\"\" n=\"\" o=\"\" p=\"\" 1")
    ∷  -- 64 bytes in a part of a name, and 65
    formed (codes "<" ++ times 64 (codes "n") ++ codes ":" ++ times 64 (codes "n") ++ codes " " ++ times 64 (codes "m") ++ codes "=\"\"/>")
    ∷ stops 14 1 (codes "<" ++ times 65 (codes "n") ++ codes "/>")
    ∷ stops 14 3 (codes "<n:" ++ times 65 (codes "n") ++ codes "/>")
    ∷ stops 14 3 (codes "<n " ++ times 65 (codes "n") ++ codes "=\"\"/>")
    ∷ stops 14 5 (codes "<n></" ++ times 65 (codes "n"))
    ∷ stops 9 5 (codes "<m></" ++ times 65 (codes "n"))
    ∷ stops 14 6 (codes "<nn></n1" ++ times 63 (codes "n"))
    ∷ [])
