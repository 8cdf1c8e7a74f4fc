mod Listed
mod OneMore
