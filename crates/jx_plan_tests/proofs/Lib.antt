mod OneTile
